-- The intervals agree with the lists after each change.
use Rattle.std.proofs.Common.{◌≡◌, ℕ, true, false, cond, eqb, List, [], ◌∷◌, Some, None, get_or, refl, arith, sym, ap, subst, ◌∙◌}
use Rattle.std.specs.List.{AllByRecursion, remove}
use Rattle.std.specs.Option.{option_map_or}
use Rattle.std.proofs.lemmas.Bool.{eqb-true}
use Rattle.std.proofs.lemmas.Bool.Decides.{nat_tests}
use Rattle.std.proofs.lemmas.List.{get_or_default}
use Rattle.std.proofs.Math.ListN.{set}
use Rattle.std.proofs.lemmas.Option.{slice_get-get_or}
use Rattle.base.specs.Access.{View}
use Rattle.base.specs.Transactions.{Live, Donation}
use Rattle.base.specs.Manifest.{ManifestRows}
use Rattle.base.specs.Pages.{PageRun, covers}
use Rattle.base.specs.Ledger.{live_at}
use Rattle.spans.specs.Spans.{Span, value_at}
use Rattle.spans.specs.Taking.{has_number}
use Rattle.base.proofs.Ascending.{all_with}
use Rattle.ledger.specs.Ledger.{found, NamesItsSender}
use Rattle.ledger.specs.Changes.{with_live, with_retrieval, with_retrieval_of, without}
use Rattle.ledger.specs.Intervals.{AreAllSeparate, AreHandles, AreGifts, IsKept}
use Rattle.ledger.proofs.Transactions.{AreHandles-open, AreAllSeparate-open, AreHandles-close, has_handle, no_number, AreAllSeparate-without, AreHandles-retrieval, AreAllSeparate-retrieval, AllByRecursion-without, named-retrieval}
use Rattle.ledger.proofs.Places.{IsPlace}

-- ---- one more transaction

pub IsKept-open : (m : ManifestRows) (ds : List Donation) (live known next : List Live) (given shared new : List Span) (t : Live) (runs : List PageRun) (h : ℕ) → IsKept m ds live given shared → live ≡ known
    → runs ≡ t.ranges → h ≡ t.handle → found known t.handle ≡ None → NamesItsSender t → ((n : ℕ) → covers t.ranges n ≡ true → live_at known n ≡ None)
    → ((n : ℕ) → value_at new n ≡ cond (covers runs n) (Some h) (value_at shared n)) → next ≡ with_live t live → IsKept m ds next given new
IsKept-open m ds live known next given shared new t runs h kept same runs_are h_is unknown its none at items =
    let unknown_now : found live t.handle ≡ None = subst (λ (l : List Live). found l t.handle ≡ None) (sym same) unknown in
    let none_now : (n : ℕ) → covers t.ranges n ≡ true → live_at live n ≡ None = subst (λ (l : List Live). (n : ℕ) → covers t.ranges n ≡ true → live_at l n ≡ None) (sym same) none in
    let put : (n : ℕ) → value_at new n ≡ cond (covers t.ranges n) (Some t.handle) (value_at shared n) =
    λ n. at n ∙ ap (λ (rs : List PageRun). cond (covers rs n) (Some h) (value_at shared n)) runs_are ∙ ap (λ (k : ℕ). cond (covers t.ranges n) (Some k) (value_at shared n)) h_is in
    record {
      gifts = kept.gifts;
      handles = subst (λ (l : List Live). AreHandles l new) (sym items) (AreHandles-open live t shared new kept.handles none_now put);
      separate = subst AreAllSeparate (sym items) (AreAllSeparate-open live t kept.separate none_now unknown_now);
      named = subst (AllByRecursion NamesItsSender) (sym items) (all_with NamesItsSender t live kept.named its);
    }

-- the pages that have its handle as their number are those that it was put on
pub has_put : (m : ManifestRows) (ds : List Donation) (live : List Live) (given shared new : List Span) (runs : List PageRun) (h k : ℕ) → IsKept m ds live given shared → found live h ≡ None → k ≡ h
    → ((n : ℕ) → value_at new n ≡ cond (covers runs n) (Some k) (value_at shared n)) → (n : ℕ) → has_number k new n ≡ covers runs n
has_put m ds live given shared new runs h k kept unknown is at n =
    let self : eqb k k ≡ true = grind (arith, nat_tests) in
    let other : option_map_or (λ v. eqb v k) (value_at shared n) false ≡ false = ap (λ o. option_map_or (λ v. eqb v k) o false) (kept.handles n) ∙ no_number live k n (ap (found live) is ∙ unknown) in
    ap (λ o. option_map_or (λ v. eqb v k) o false) (at n)
    ∙ elim (covers runs n) as (λ b. option_map_or (λ v. eqb v k) (cond b (Some k) (value_at shared n)) false ≡ b) [
      | true ↦ self
      | false ↦ other
    ]

-- ---- one less

-- what stands at the place of a handle
pub found_at : (live : List Live) (h i : ℕ) (t : Live) → IsPlace live h i → t ≡ get_or live i t → found live h ≡ Some t
found_at live h i t at is = sym at.got ∙ slice_get-get_or live i t at.inside ∙ ap (λ (x : Live). Some x) (sym is)

-- the pages that have its handle as their number are those of its ranges
pub has_its_pages : (m : ManifestRows) (ds : List Donation) (live : List Live) (given shared : List Span) (h k : ℕ) (t : Live) (runs : List PageRun) → IsKept m ds live given shared → found live h ≡ Some t → runs ≡ t.ranges → k ≡ h
    → (n : ℕ) → has_number k shared n ≡ covers runs n
has_its_pages m ds live given shared h k t runs kept is runs_are k_is n =
    ap (λ (j : ℕ). has_number j shared n) k_is
    ∙ ap (λ o. option_map_or (λ v. eqb v h) o false) (kept.handles n)
    ∙ has_handle live h n t kept.separate is
    ∙ ap (λ (rs : List PageRun). covers rs n) (sym runs_are)

found_handle : (live : List Live) (h : ℕ) (t : Live) → found live h ≡ Some t → t.handle ≡ h
found_handle [] h t e = absurd cc
found_handle (u ∷ us) h t e =
    elim (eqb u.handle h) as (λ b. eqb u.handle h ≡ b → cond b (Some u) (found us h) ≡ Some t → t.handle ≡ h) [
      | true ↦ λ q e. let same : u ≡ t = cc in ap (λ (x : Live). x.handle) (sym same) ∙ eqb-true _ _ q
      | false ↦ λ q e. found_handle us h t e
    ] refl e

-- what stands at the place, whatever the default
pub stands_at : (live : List Live) (h i : ℕ) (d : Live) → IsPlace live h i → found live h ≡ Some (get_or live i d)
stands_at live h i d place = found_at live h i (get_or live i d) place (get_or_default live i d (get_or live i d) place.inside)

pub found_some : (live : List Live) (h i : ℕ) → IsPlace live h i → (t : Live) × (found live h ≡ Some t)
found_some [] h i place = absurd (omega (arith, place.inside))
found_some (u ∷ us) h i place = (get_or (u ∷ us) i u, stands_at (u ∷ us) h i u place)

pub at_place_pages : (m : ManifestRows) (ds : List Donation) (live : List Live) (given shared : List Span) (h i : ℕ) → IsKept m ds live given shared → IsPlace live h i
    → (d : Live) (n : ℕ) → has_number (get_or live i d).handle shared n ≡ covers (get_or live i d).ranges n
at_place_pages m ds live given shared h i kept place d n =
    let t = get_or live i d in
    let is = stands_at live h i d place in
    has_its_pages m ds live given shared h t.handle t t.ranges kept is refl (found_handle live h t is) n

pub IsKept-close : (m : ManifestRows) (ds : List Donation) (live next : List Live) (given shared new : List Span) (h i : ℕ) (t : Live) (runs : List PageRun) → IsKept m ds live given shared → IsPlace live h i
    → found live h ≡ Some t → runs ≡ t.ranges → ((n : ℕ) → value_at new n ≡ cond (covers runs n) None (value_at shared n)) → next ≡ remove live i → IsKept m ds next given new
IsKept-close m ds live next given shared new h i t runs kept place is runs_are at items =
    let without_it : next ≡ without h live = items ∙ place.removed in
    let cut : (n : ℕ) → value_at new n ≡ cond (covers t.ranges n) None (value_at shared n) = λ n. at n ∙ ap (λ (rs : List PageRun). cond (covers rs n) None (value_at shared n)) runs_are in
    record {
      gifts = kept.gifts;
      handles = subst (λ (l : List Live). AreHandles l new) (sym without_it) (AreHandles-close live h t shared new kept.separate is kept.handles cut);
      separate = subst AreAllSeparate (sym without_it) (AreAllSeparate-without live h kept.separate);
      named = subst (AllByRecursion NamesItsSender) (sym without_it) (AllByRecursion-without NamesItsSender live h kept.named);
    }

-- ---- one changed

pub changed_at : (live : List Live) (h p i : ℕ) (view : View) (t new : Live) → IsPlace live h i → t ≡ get_or live i t → new ≡ with_retrieval p view t → set live i new ≡ with_retrieval_of h p view live
changed_at live h p i view t new place is change = ap (λ (x : Live). set live i x) change ∙ place.changed p view t (place.got ∙ found_at live h i t place is)

pub IsKept-retrieval : (m : ManifestRows) (ds : List Donation) (live next : List Live) (given shared : List Span) (h p : ℕ) (view : View) → IsKept m ds live given shared → next ≡ with_retrieval_of h p view live → IsKept m ds next given shared
IsKept-retrieval m ds live next given shared h p view kept items = record {
  gifts = kept.gifts;
  handles = subst (λ (l : List Live). AreHandles l shared) (sym items) (AreHandles-retrieval live h p view shared kept.handles);
  separate = subst AreAllSeparate (sym items) (AreAllSeparate-retrieval live h p view kept.separate);
  named = subst (AllByRecursion NamesItsSender) (sym items) (named-retrieval live h p view kept.named);
}

-- ---- a donation is completed

pub IsKept-given : (m : ManifestRows) (ds next : List Donation) (live : List Live) (given shared new : List Span) → IsKept m ds live given shared → AreGifts m next new → IsKept m next live new shared
IsKept-given m ds next live given shared new kept are = record {
  gifts = are;
  handles = kept.handles;
  separate = kept.separate;
  named = kept.named;
}
