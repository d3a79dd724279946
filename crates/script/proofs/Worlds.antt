-- Worlds that are the same, and what tables show of a state.
use Rattle.std.specs.Prelude.{codes}
use Rattle.base.specs.Manifest.{ManifestRows}
use Rattle.base.specs.Transactions.{Donation, Live}
use Rattle.std.proofs.Common.{◌≡◌, inl, inr, ℕ, ◌^◌, ◌<◌, List, ap, ◌∙◌}
use Rattle.base.specs.State.{State, sees}
use Rattle.pool.specs.Pool.{Pool, words_of}
use Rattle.stage2.specs.Orderly.{answer_of}
use Rattle.stage2.specs.Slot.{layout_of}
use Rattle.stage2.specs.Tables.{TablesView, view_of}
use Rattle.stage2.specs.Walk.{translation}
use Rattle.stage2.proofs.Editing.ChunkKeeps.{answer-walked}
use Rattle.spm.specs.Machine.{WalksAgree}
use Rattle.audit.specs.Audit.{HaveEntriesOf, IsAuditText}
use Rattle.stage2.proofs.Reading.SameViews.{entries-same}
use Rattle.script.specs.Script.{World}

abbrev record_of : State → (ℕ → List ℕ) → World
record_of s kept = record { state = s; kept = kept }

-- worlds of one state that keep the same bytes
pub same_world : (s t : State) (kept other : ℕ → List ℕ) → s ≡ t → ((p : ℕ) → kept p ≡ other p) → record_of s kept ≡ record_of t other
same_world s t kept other e h = λ i. record { state = e i; kept = λ p. h p i }

-- what the tables give, page by page
pub tables_show : (s : State) (t : TablesView) (pool : Pool) → t.layout ≡ layout_of s.manifest → t.pool ≡ pool → WalksAgree s pool → (p n : ℕ) → n < 2 ^ 27 → view_of t p n ≡ sees s p n
tables_show s t pool e f agrees p n small =
    ap answer_of ((λ i. translation (e i) (words_of (f i).memory.words) p n) ∙ agrees.walks p n small)
    ∙ answer-walked n (sees s p n)

-- the entries of the tables are those of the state
pub have_entries : (s : State) (t : TablesView) → ((p n : ℕ) → n < 2 ^ 27 → view_of t p n ≡ sees s p n) → HaveEntriesOf s.manifest s.donations s.live t
have_entries s t show = record { same = λ p known. entries-same (sees s p) (view_of t p) (show p) }

-- so an audit of lists that are the state's says that they are equal
pub audited_equal : (m : ManifestRows) (ds : List Donation) (live : List Live) (s : State) (t : TablesView) (text : List ℕ) → m ≡ s.manifest → ds ≡ s.donations → live ≡ s.live → HaveEntriesOf s.manifest s.donations s.live t → IsAuditText text (HaveEntriesOf m ds live t) → text ≡ codes "equal\n"
audited_equal m ds live s t text e f g have says = elim says [
  | inl equal ↦ equal.0
  | inr differs ↦ absurd (differs.1 (rw (e, f, g) have))
]
