-- An edit fits by the tables exactly where it fits by the state.
use Rattle.std.proofs.Common.{◌≡◌, ℕ, suc, ◌+◌, ◌*◌, ◌^◌, ◌<◌, ◌≤◌, Bool, true, false, ◌&&◌, not, cond, eqb, leb, List, [], ◌∷◌, get_or, Option, Some, None, refl, sym, ap, ap₂, ◌∙◌, arith}
use Rattle.std.specs.Option.{option_map_or}
use Rattle.std.specs.List.{find}
use Rattle.std.proofs.lemmas.Bool.{leb-true}
use Rattle.base.specs.Access.{View}
use Rattle.base.specs.Manifest.{PartitionRow, ManifestRows, ids_of, quotas_of, row_of}
use Rattle.base.specs.Need.{is_mixed, is_reached, need, grow, reaching}
use Rattle.base.specs.Pages.{covers}
use Rattle.base.specs.State.{State, sees}
use Rattle.manifest.specs.Valid as manifest
use Rattle.pool.specs.Pool as pool
use Rattle.pool.specs.Pool.{words_of}
use Rattle.pool.proofs.Count.{count_below-same}
use Rattle.stage2.specs.Orderly.{answer_of}
use Rattle.stage2.specs.Slot.{Layout, layout_of}
use Rattle.stage2.specs.Tables.{TablesView, walk_in, view_of, Fits, quota_in}
use Rattle.stage2.specs.Walk.{walked}
use Rattle.stage2.proofs.Counting.Needs.{mixed-same, reached-same}
use Rattle.rules.specs.Rule.{Edit, fits}
use Rattle.rules.specs.Call.{CallWords}
use Rattle.rules.specs.Run.{rule_of}
use Rattle.rules.specs.Laws.EditsTheView.{Passes}
use Rattle.spm.specs.declared.change.Change.{Change}
use Rattle.spm.specs.Granted.{AreSameEdits, IsGrantedCall}
use Rattle.spm.specs.Machine.{WalksAgree, fits_in}

-- ---- views that are alike need as many tables

-- alike at each page
abbrev AreAlike : (ℕ → View) → (ℕ → View) → Type 0
AreAlike v w = (n : ℕ) → n < 2 ^ 27 → w n ≡ v n

reached_alike : (v w : ℕ → View) (g : ℕ) → AreAlike v w → g < 512 → is_reached w g ≡ is_reached v g
reached_alike v w g alike small = reached-same v w g (λ i lt. alike (262144 * g + i) (omega arith))

mixed_alike : (v w : ℕ → View) (c : ℕ) → AreAlike v w → c < 262144 → is_mixed w c ≡ is_mixed v c
mixed_alike v w c alike small = mixed-same v w c (λ i lt. alike (512 * c + i) (omega arith))

need_alike : (v w : ℕ → View) → AreAlike v w → need w ≡ need v
unfolding need
need_alike v w alike =
    ap₂ (λ (a b : ℕ). a + b)
    (count_below-same (is_reached v) (is_reached w) 512 (λ g small. reached_alike v w g alike small))
    (count_below-same (is_mixed v) (is_mixed w) 262144 (λ c small. mixed_alike v w c alike small))

grow_alike : (v w x y : ℕ → View) → AreAlike v w → AreAlike x y → grow w y ≡ grow v x
unfolding grow
grow_alike v w x y old new =
    ap₂ (λ (a b : ℕ). a + b)
    (count_below-same (λ g. is_reached x g && not (is_reached v g)) (λ g. is_reached y g && not (is_reached w g)) 512 (λ g small. rw (reached_alike v w g old small, reached_alike x y g new small) refl))
    (count_below-same (λ c. is_mixed x c && not (is_mixed v c)) (λ c. is_mixed y c && not (is_mixed w c)) 262144 (λ c small. rw (mixed_alike v w c old small, mixed_alike x y c new small) refl))

-- ---- rows and quotas

pub quota_at : (rows : List PartitionRow) (p : ℕ) → pool.row_quota (quotas_of rows) (row_of (ids_of rows) p) ≡ option_map_or (λ (row : PartitionRow). row.quota) (find (λ row. eqb row.id p) rows) 0
quota_at [] p = refl
quota_at (row ∷ rows) p =
    elim (eqb row.id p) as (λ b. get_or (row.quota ∷ quotas_of rows) (cond (not b) (1 + row_of (ids_of rows) p) 0) 0 ≡ option_map_or (λ (r : PartitionRow). r.quota) (cond b (Some row) (find (λ r. eqb r.id p) rows)) 0) [
      | true ↦ refl
      | false ↦ let next : 1 + row_of (ids_of rows) p ≡ suc (row_of (ids_of rows) p) = omega arith in rw next (quota_at rows p)
    ]

-- ---- the edit fits

pub fits_from : (m : ManifestRows) (t : TablesView) (edit : Edit) → t.layout ≡ layout_of m → t.layout.quotas ≡ t.pool.memory.quotas → fits_in m t (Some edit) ≡ true → Fits edit.who edit.runs edit.to t
fits_from m t edit placed quotas h =
    let view = view_of t edit.who in
    let le : need view + grow view (reaching edit.runs edit.to view) ≤ manifest.quota_of m edit.who = leb-true _ _ h in
    let same : quota_in t edit.who ≡ manifest.quota_of m edit.who =
    ap (λ (q : List ℕ). pool.row_quota q (row_of t.layout.ids edit.who)) (sym quotas) ∙ ap (λ (l : Layout). pool.row_quota l.quotas (row_of l.ids edit.who)) placed ∙ quota_at m.partitions edit.who in
    rw same le

walked_view : (n : ℕ) (a : View) → answer_of (walked n a) ≡ a
walked_view n None = refl
walked_view n (Some a) = refl

chosen : (b c : Bool) (x y u v : View) → b ≡ c → x ≡ y → u ≡ v → cond b x u ≡ cond c y v
chosen b c x y u v e f g = rw (e, f, g) refl

pub fits_same : (s : State) (t : TablesView) (a b : Option Edit) → t.layout ≡ layout_of s.manifest → WalksAgree s t.pool → AreSameEdits a b → fits_in s.manifest t b ≡ fits s a
unfolding fits
fits_same s t None None placed agrees same = refl
fits_same s t None (Some b) placed agrees same = absurd same
fits_same s t (Some a) None placed agrees same = absurd same
fits_same s t (Some a) (Some b) placed agrees same =
    let old = sees s a.who in
    let now = view_of t b.who in
    let alike : AreAlike old now = λ n small. ap (λ p. view_of t p n) same.who ∙ ap answer_of (ap (λ (l : Layout). walk_in (record t { layout = l }) a.who n) placed ∙ agrees.walks a.who n small) ∙ walked_view n (old n) in
    let after : AreAlike (reaching a.runs a.to old) (reaching b.runs b.to now) = λ n small. chosen (covers b.runs n) (covers a.runs n) b.to a.to (now n) (old n) (same.pages n) same.to (alike n small) in
    let counts : (need now + grow now (reaching b.runs b.to now)) ≡ (need old + grow old (reaching a.runs a.to old)) = ap₂ (λ (x y : ℕ). x + y) (need_alike old now alike) (grow_alike old now (reaching a.runs a.to old) (reaching b.runs b.to now) alike after) in
    ap₂ (λ (x y : ℕ). leb x y) counts (ap (λ p. manifest.quota_of s.manifest p) same.who)

-- the request of a change whose edit fits by the tables passes all its tests
pub all_passes : (s : State) (t : TablesView) (c : CallWords) (change : Change) (granted : IsGrantedCall s c change) → t.layout ≡ layout_of s.manifest → WalksAgree s t.pool → fits_in s.manifest t change.edit ≡ true → Passes s c granted.request
all_passes s t c change granted placed agrees h =
    let rule = rule_of s c granted.request in
    record {
      tests = record { known = granted.known; named = granted.named; passed = granted.granted.passed };
      fits = sym (fits_same s t rule.edit change.edit placed agrees granted.granted.edit) ∙ h;
    }

pub unfits : (s : State) (t : TablesView) (c : CallWords) (change : Change) (granted : IsGrantedCall s c change) → t.layout ≡ layout_of s.manifest → WalksAgree s t.pool → fits_in s.manifest t change.edit ≡ false → fits s (rule_of s c granted.request).edit ≡ false
unfits s t c change granted placed agrees h = sym (fits_same s t (rule_of s c granted.request).edit change.edit placed agrees granted.granted.edit) ∙ h
