-- What an audit says, by the entries of tables that are made again.
use Rattle.std.proofs.Common.{◌≡◌, ℕ, Bool, true, false, List, [], ◌∷◌, sym, ap, ◌∙◌, inl, inr, codes, ◌++◌, map, ap₂}
use Rattle.std.proofs.lemmas.List.{map-append}
use Rattle.stage2.specs.Reading.{TableEntry, shown, PassTheSame}
use Rattle.base.specs.Manifest.{ManifestRows}
use Rattle.base.specs.Ledger.{view}
use Rattle.base.specs.Transactions.{Donation, Live}
use Rattle.stage2.specs.Orderly.{answer_of}
use Rattle.stage2.specs.Tables.{TablesView, view_of, AllWalksAre}
use Rattle.stage2.proofs.Editing.ChunkKeeps.{answer-walked}
use Rattle.audit.specs.Audit.{HaveEntriesOf, HaveSameEntries, Tells, IsAuditText}
use Rattle.stage2.specs.Listing.{entries}
use Rattle.stage2.proofs.Reading.SameViews.{entries-same}

-- ---- tables that walk as the views of lists say

module _ (m : ManifestRows) (ds : List Donation) (live : List Live) (t u : TablesView) (agrees : AllWalksAre u.layout (view m ds live) u.pool) where
  rebuilt-entries : (p : ℕ) → entries (view_of u p) ≡ entries (view m ds live p)
  rebuilt-entries p = entries-same (view m ds live p) (view_of u p) (λ n small. ap answer_of (agrees p n small) ∙ answer-walked n (view m ds live p n))

  pub have-entries : HaveSameEntries m t u → HaveEntriesOf m ds live t
  have-entries h = record { same = λ p known. h.same p known ∙ rebuilt-entries p }

  pub have-same : HaveEntriesOf m ds live t → HaveSameEntries m t u
  have-same h = record { same = λ p known. h.same p known ∙ sym (rebuilt-entries p) }

  -- the text by the answer
  pub text-equal : (same : Bool) (text : List ℕ) → Tells same (HaveSameEntries m t u) → same ≡ true → text ≡ codes "equal\n" → IsAuditText text (HaveEntriesOf m ds live t)
  text-equal same text tells is now = elim tells [
    | inl told ↦ inl (now, have-entries told.1)
    | inr told ↦ absurd (no_answer same is told.0)
  ]
    where
      no_answer : (b : Bool) → b ≡ true → b ≡ false → ⊥
      no_answer b x y = cc

  pub text-differs : (same : Bool) (text : List ℕ) → Tells same (HaveSameEntries m t u) → same ≡ false → text ≡ codes "differs\n" → IsAuditText text (HaveEntriesOf m ds live t)
  text-differs same text tells is now = elim tells [
    | inl told ↦ absurd (no_answer same told.0 is)
    | inr told ↦ inr (now, λ h. told.1 (have-same h))
  ]
    where
      no_answer : (b : Bool) → b ≡ true → b ≡ false → ⊥
      no_answer b x y = cc

-- ---- entries side by side

tail-same : {A : Type 0} (x y : A) (xs ys : List A) → x ∷ xs ≡ y ∷ ys → xs ≡ ys
tail-same x y xs ys same = cc

front-same : {A : Type 0} (front xs ys : List A) → front ++ xs ≡ front ++ ys → xs ≡ ys
front-same [] xs ys same = same
front-same (x ∷ front) xs ys same = front-same front xs ys (tail-same x x (front ++ xs) (front ++ ys) same)

module _ (ours theirs mid other_mid new other_new : List TableEntry) (e o : TableEntry) (our : ours ≡ e ∷ mid) (their : theirs ≡ o ∷ other_mid) (passed : PassTheSame mid new other_mid other_new) where
  shown-ours : map shown ours ≡ shown e ∷ (map shown passed.passed ++ map shown new)
  shown-ours = ap (map shown) our ∙ ap (λ (xs : List TableEntry). shown e ∷ map shown xs) passed.ours ∙ ap (λ xs. shown e ∷ xs) (map-append shown passed.passed new)

  shown-theirs : map shown theirs ≡ shown o ∷ (map shown passed.passed ++ map shown other_new)
  shown-theirs = ap (map shown) their ∙ ap (λ (xs : List TableEntry). shown o ∷ map shown xs) passed.theirs ∙ ap (λ xs. shown o ∷ xs) (map-append shown passed.passed other_new)

  pub same-left : map shown ours ≡ map shown theirs → map shown new ≡ map shown other_new
  same-left same = front-same (map shown passed.passed) (map shown new) (map shown other_new) (tail-same (shown e) (shown o) _ _ (sym shown-ours ∙ same ∙ shown-theirs))

  pub same-all : shown e ≡ shown o → map shown new ≡ map shown other_new → map shown ours ≡ map shown theirs
  same-all first rest = shown-ours ∙ ap₂ (λ x xs. x ∷ (map shown passed.passed ++ xs)) first rest ∙ sym shown-theirs
