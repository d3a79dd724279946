-- One more turn of the loops over receivers and ranges.
use Rattle.std.proofs.Common.{◌≡◌, ℕ, ◌+◌, ◌^◌, ◌<◌, List, ◌∷◌, ◌++◌, length, drop, get_or, sym, ap, ◌∙◌, append_assoc}
use Rattle.std.proofs.lemmas.List.{drop_more}
use Rattle.base.specs.Pages.{PageRun, IsRun}
use Rattle.base.specs.Descriptors.Send.{Endpoint}
use Rattle.base.specs.Descriptors.Encoding.{RangeFields, access_text, accesses_text, range_text, ranges_text, range_of, runs_text}
use Rattle.descw.specs.Inside.{AreIdentifiers, AreRuns}

-- the item at an index stands before those behind it
split : {X : Type 0} (xs : List X) (i : ℕ) (x : X) → i < length xs → x ≡ get_or xs i x → drop i xs ≡ x ∷ drop (i + 1) xs
split xs i x lt is = drop_more xs i x lt ∙ ap (λ y. y ∷ drop (i + 1) xs) (sym is)

-- what is appended moves from the rest to what stands
moved : (old new one rest all : List ℕ) → new ≡ old ++ one → old ++ (one ++ rest) ≡ all → new ++ rest ≡ all
moved old new one rest all is so_far = rw is (append_assoc old one rest ∙ so_far)

module _ (i : ℕ) (old new all : List ℕ) where
  pub accesses_text-more : (c : ℕ) (es : List Endpoint) (e : Endpoint) → i < length es → e ≡ get_or es i e
      → new ≡ old ++ access_text c e → old ++ accesses_text c (drop i es) ≡ all → new ++ accesses_text c (drop (i + 1) es) ≡ all
  accesses_text-more c es e lt is one so_far =
      moved old new (access_text c e) (accesses_text c (drop (i + 1) es)) all one (ap (λ xs. old ++ accesses_text c xs) (sym (split es i e lt is)) ∙ so_far)

  pub ranges_text-more : (rs : List RangeFields) (r : RangeFields) → i < length rs → r ≡ get_or rs i r
      → new ≡ old ++ range_text r → old ++ ranges_text (drop i rs) ≡ all → new ++ ranges_text (drop (i + 1) rs) ≡ all
  ranges_text-more rs r lt is one so_far =
      moved old new (range_text r) (ranges_text (drop (i + 1) rs)) all one (ap (λ xs. old ++ ranges_text xs) (sym (split rs i r lt is)) ∙ so_far)

  pub runs_text-more : (rs : List PageRun) (r : PageRun) → i < length rs → r ≡ get_or rs i r
      → new ≡ old ++ range_text (range_of r) → old ++ runs_text (drop i rs) ≡ all → new ++ runs_text (drop (i + 1) rs) ≡ all
  runs_text-more rs r lt is one so_far =
      moved old new (range_text (range_of r)) (runs_text (drop (i + 1) rs)) all one (ap (λ xs. old ++ runs_text xs) (sym (split rs i r lt is)) ∙ so_far)

pub identifiers-more : (i : ℕ) (es : List Endpoint) (e : Endpoint) (all : Type 0) → i < length es → e ≡ get_or es i e
    → e.partition < 2 ^ 16 → (AreIdentifiers (drop i es) → all) → AreIdentifiers (drop (i + 1) es) → all
identifiers-more i es e all lt is one so_far rest =
    let both : AreIdentifiers (e ∷ drop (i + 1) es) = (one, rest) in
    so_far (rw (split es i e lt is) both)

pub runs-more : (i : ℕ) (rs : List PageRun) (r : PageRun) (all : Type 0) → i < length rs → r ≡ get_or rs i r
    → IsRun r → (AreRuns (drop i rs) → all) → AreRuns (drop (i + 1) rs) → all
runs-more i rs r all lt is one so_far rest =
    let both : AreRuns (r ∷ drop (i + 1) rs) = (one, rest) in
    so_far (rw (split rs i r lt is) both)
