-- Pages that are alike are free alike, and a page of each segment tells of all.
use Rattle.std.proofs.Common.{◌≡◌, ℕ, zero, suc, ◌+◌, ◌-◌, ◌<◌, ◌≤◌, Bool, true, false, ◌&&◌, not, cond, List, ◌∷◌, Option, Some, None, refl, sym, ap, ◌∙◌, arith, inl, inr}
use Rattle.std.specs.Option.{option_map_or}
use Rattle.std.proofs.lemmas.Bool.{cases_lt}
use Rattle.base.specs.Access.{Access, View, is_rw, is_normal, is_same_bool, is_reached_with}
use Rattle.base.specs.Alike.{IsAlikeUntil}
use Rattle.base.specs.Ledger.{is_idle}
use Rattle.base.specs.Buffers.{Pair, in_pair, is_buffer, pair_of}
use Rattle.base.specs.State.{State, is_free, free_home, home_of, is_free_with, each_page, each_page_in}
use Rattle.base.specs.Pages.{PageRun}
use Rattle.rules.specs.Calls.Buffers.{may_be_buffer}
use Rattle.rules.specs.Run.{IsReached}
use Rattle.ledger.specs.Free.{idle_home}
use Rattle.spm.proofs.OwnBufferLemmas.{own_buffer}

-- the page lies in the pair, if there is one
abbrev has_page : Option Pair → ℕ → Bool
has_page pair n = option_map_or (λ a. in_pair a n) pair false

both-tests : (idle buffer own : Bool) (home : View) → (idle ≡ true → buffer ≡ own) → cond (idle && not buffer) home None ≡ cond own None (cond idle home None)
both-tests true true own home same = rw (← same refl) refl
both-tests true false own home same = rw (← same refl) refl
both-tests false buffer true home same = refl
both-tests false buffer false home same = refl

-- pages that are idle with the same home, for a partition with this pair
module _ (s : State) (p : ℕ) (own : Option Pair) (page until : ℕ) (home : View) (reached : IsReached s) (mine : own ≡ pair_of s.mailboxes p) (is : (n : ℕ) → page ≤ n → n < until → idle_home s.manifest s.donations s.live p n ≡ home) where
  -- one of them is free where the pair does not have it
  pub home-of : (n : ℕ) → page ≤ n → n < until → free_home s p n ≡ cond (has_page own n) None home
  unfolding free_home is_free
  home-of n from to =
      let same : is_idle s.manifest s.donations s.live p n ≡ true → is_buffer s.mailboxes n ≡ has_page own n = λ idle. own_buffer s p n reached idle ∙ ap (λ (o : Option Pair). has_page o n) (sym mine) in
      both-tests (is_idle s.manifest s.donations s.live p n) (is_buffer s.mailboxes n) (has_page own n) (home_of s n) same
      ∙ ap (cond (has_page own n) None) (is n from to)

  -- they are free alike where neither buffer begins or ends
  pub free-alike : (limit end most : ℕ) → IsAlikeUntil (has_page own) page limit end → limit ≤ until → limit ≤ most → IsAlikeUntil (free_home s p) page most end
  free-alike limit end most alike inside below =
      record {
        behind = alike.behind;
        inside = omega (arith, alike.inside);
        alike = λ n from to.
            home-of n from (omega (arith, alike.inside))
            ∙ ap (λ b. cond b None home) (alike.alike n from to)
            ∙ sym (home-of page (omega arith) (omega (arith, alike.inside, alike.behind)));
      }

-- what the home of a free page decides
pub free_with-by : (s : State) (p : ℕ) (home : Access) (n : ℕ) → is_free_with s p home n ≡ is_reached_with home (free_home s p n)
unfolding is_free_with
free_with-by s p home n = refl

pub may_be_buffer-by : (s : State) (p n : ℕ) → may_be_buffer s p n ≡ option_map_or (λ home. is_rw home.rights) (free_home s p n) false
unfolding may_be_buffer
may_be_buffer-by s p n = refl

-- what holds of so many pages may be left out
each_page-past : (f : ℕ → Bool) (end k n : ℕ) → n + k ≤ end → ((m : ℕ) → n ≤ m → m < n + k → f m ≡ true) → each_page f n (end - n) ≡ each_page f (n + k) (end - (n + k))
each_page-past f end zero n inside holds = let e : n + 0 ≡ n = omega arith in rw e refl
each_page-past f end (suc k) n inside holds =
    let split : end - n ≡ suc (end - (n + 1)) = omega arith in
    let one : f n ≡ true = holds n (omega arith) (omega arith) in
    let first : each_page f n (end - n) ≡ each_page f (n + 1) (end - (n + 1)) = rw (split, one) refl in
    let rest = each_page-past f end k (n + 1) (omega arith) (λ m from to. holds m (omega arith) (omega arith)) in
    let e : (n + 1) + k ≡ n + suc k = omega arith in
    first ∙ rest ∙ ap (λ i. each_page f i (end - i)) e

-- where it holds of all pages up to one, that one decides, also where it is behind the end
pub each_page-over : (f : ℕ → Bool) (end n until : ℕ) → n ≤ until → n ≤ end → ((m : ℕ) → n ≤ m → m < until → f m ≡ true) → each_page f until (end - until) ≡ each_page f n (end - n)
each_page-over f end n until from inside holds = elim (cases_lt end until) [
  | inl beyond ↦
      let left : end - until ≡ 0 = omega (arith, beyond) in
      let all : n + (end - n) ≡ end = omega (arith, inside) in
      let none : end - end ≡ 0 = omega arith in
      let past = each_page-past f end (end - n) n (omega (arith, all)) (λ m above below. holds m above (omega (arith, below, all, beyond))) in
      ap (each_page f until) left ∙ sym (past ∙ ap (λ i. each_page f i (end - i)) all ∙ ap (each_page f end) none)
  | inr within ↦
      let all : n + (until - n) ≡ until = omega (arith, from) in
      let past = each_page-past f end (until - n) n (omega (arith, all, within)) (λ m above below. holds m above (omega (arith, below, all))) in
      sym (past ∙ ap (λ i. each_page f i (end - i)) all)
]

-- where no page is left, it holds of all
pub each_page-done : (f : ℕ → Bool) (end n : ℕ) → end ≤ n → each_page f n (end - n) ≡ true
each_page-done f end n past = let none : end - n ≡ 0 = omega (arith, past) in ap (each_page f n) none

-- where it holds of a page, and of those behind it alike, the next page decides
each_page-next : (f : ℕ → Bool) (end n until : ℕ) (all : Bool) → n < until → until ≤ end → ((m : ℕ) → n ≤ m → m < until → f m ≡ f n) → f n ≡ true → each_page f n (end - n) ≡ all → each_page f until (end - until) ≡ all
each_page-next f end n until all lt inside alike one so_far =
    let e : n + (until - n) ≡ until = omega arith in
    let past = each_page-past f end (until - n) n (omega arith) (λ m from to. alike m from (omega arith) ∙ one) in
    sym (past ∙ ap (λ i. each_page f i (end - i)) e) ∙ so_far

-- where it fails at a page, it does not hold of all
pub each_page-fails : (f : ℕ → Bool) (end n : ℕ) → n < end → f n ≡ false → each_page f n (end - n) ≡ false
each_page-fails f end n lt fails =
    let split : end - n ≡ suc (end - (n + 1)) = omega arith in
    rw (split, fails) refl

-- ---- the pages of a run, of which a test of their homes decides

module _ (f : ℕ → Bool) (homes : ℕ → View) (test : View → Bool) (by : (n : ℕ) → f n ≡ test (homes n)) (end n page : ℕ) (all : Bool) (here : View) (at : page ≡ n) (is : here ≡ homes page) (so_far : each_page f n (end - n) ≡ all) where
  one : f n ≡ test here
  one = by n ∙ ap (λ k. test (homes k)) (sym at) ∙ ap test (sym is)

  -- where the test holds of the home of a segment, it holds of its pages
  pub segment-holds : (until : ℕ) → IsAlikeUntil homes page end until → test here ≡ true → each_page f until (end - until) ≡ all
  segment-holds until alike holds =
      each_page-next f end n until all (omega (arith, alike.behind, at)) alike.inside
      (λ m from to. by m ∙ ap test (alike.alike m (omega (arith, from, at)) to) ∙ ap test (sym is) ∙ sym one) (one ∙ holds) so_far

  -- where it fails, it fails of the run
  pub segment-fails : n < end → test here ≡ false → all ≡ false
  segment-fails lt fails = sym so_far ∙ each_page-fails f end n lt (one ∙ fails)

-- ---- the ranges of a send

-- where it holds of a run's pages before this one, those from it on decide
pub each_page-known : (f : ℕ → Bool) (run : PageRun) (start end : ℕ) → end ≡ run.first + run.count → run.first ≤ start → start ≤ run.first + run.count → ((n : ℕ) → run.first ≤ n → n < start → f n ≡ true)
    → each_page f start (end - start) ≡ each_page f run.first run.count
each_page-known f run start end last behind inside holds =
    let left : end - run.first ≡ run.count = omega arith in
    let e : run.first + (start - run.first) ≡ start = omega arith in
    let past = each_page-past f end (start - run.first) run.first (omega arith) (λ n from to. holds n from (omega (arith, to))) in
    sym (sym (ap (each_page f run.first) left) ∙ past ∙ ap (λ i. each_page f i (end - i)) e)

-- the next range and those behind it decide
pub next-range : (f : ℕ → Bool) (ranges rest : List PageRun) (run : PageRun) (here all : Bool) → ranges ≡ run ∷ rest → here ≡ each_page f run.first run.count → each_page_in f ranges ≡ all → (here && each_page_in f rest) ≡ all
next-range f ranges rest run here all are is so_far = ap (λ b. b && each_page_in f rest) is ∙ sym (ap (each_page_in f) are) ∙ so_far

same_bool : (a : Bool) → is_same_bool a a ≡ true
same_bool true = refl
same_bool false = refl

-- a home is reached with itself
with-itself : (home : Access) → is_reached_with home (Some home) ≡ true
with-itself home = rw (same_bool (is_rw home.rights), same_bool home.exec, same_bool (is_normal home.kind)) refl

-- pages alike to one whose home is as good are free with this home
pub reached-free : (s : State) (p : ℕ) (home : Access) (page limit until : ℕ) (here : View) → here ≡ free_home s p page → is_reached_with home here ≡ true → IsAlikeUntil (free_home s p) page limit until → (n : ℕ) → page ≤ n → n < until → is_free_with s p home n ≡ true
reached-free s p home page limit until here is good alike n from to =
    free_with-by s p home n ∙ ap (is_reached_with home) (alike.alike n from to ∙ sym is) ∙ good

-- and where it is not, the page is not
pub reached-fails : (s : State) (p : ℕ) (home : Access) (page : ℕ) (here : View) → here ≡ free_home s p page → is_reached_with home here ≡ false → is_free_with s p home page ≡ false
reached-fails s p home page here is bad = free_with-by s p home page ∙ ap (is_reached_with home) (sym is) ∙ bad

-- pages alike to one with this home are free with it
pub known-free : (s : State) (p : ℕ) (home : Access) (page limit until : ℕ) → Some home ≡ free_home s p page → IsAlikeUntil (free_home s p) page limit until → (n : ℕ) → page ≤ n → n < until → is_free_with s p home n ≡ true
known-free s p home page limit until here alike n from to =
    free_with-by s p home n ∙ ap (is_reached_with home) (alike.alike n from to ∙ sym here) ∙ with-itself home
