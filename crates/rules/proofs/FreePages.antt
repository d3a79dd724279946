-- What is known of each page of some runs that are free for a partition.
use Rattle.std.proofs.Common.{◌≡◌, ◌≢◌, ℕ, zero, suc, ◌+◌, ◌<◌, ◌≤◌, Bool, true, false, ◌&&◌, ◌||◌, not, cond, leb, ltb, eqb, List, [], ◌∷◌, length, Option, Some, None, is_some, find, refl, sym, ap, ◌∙◌, subst, arith}
use Rattle.std.specs.Option.{option_map, option_and_then, option_map_or}
use Rattle.std.proofs.lemmas.Bool.{leb-true, eqb-true, eq-eqb}
use Rattle.std.proofs.lemmas.Bool.Decides.{nat_tests}
use Rattle.base.specs.declared.access.MemoryKind.{MemoryKind}
use Rattle.base.specs.Pages.{PageRun, in_run, covers}
use Rattle.base.specs.Access.{Access, View, is_normal}
use Rattle.base.specs.Manifest.{GrantRow, RegionRow, region_at, granted_in, access_of_grant, is_sharable}
use Rattle.base.specs.Transactions.{Gift}
use Rattle.base.specs.Ledger.{live_at, donation_at, settled_view, is_idle}
use Rattle.base.specs.Buffers.{is_buffer}
use Rattle.base.specs.State.{State, is_free, free_home, is_free_with, common_home, home_of, owns, each_page, each_page_in}
use Rattle.base.proofs.Booleans.{both}
use Rattle.base.proofs.Accesses.{reached_with}

-- ---- each page of some runs

each_page_at : (f : ℕ → Bool) (count first n : ℕ) → each_page f first count ≡ true → first ≤ n → n < first + count → f n ≡ true
each_page_at f zero first n h le lt = absurd (omega arith)
each_page_at f (suc count) first n h le lt =
    let b = both (f first) (each_page f (first + 1) count) h in
    elim (leb (first + 1) n) as (λ t. leb (first + 1) n ≡ t → f n ≡ true) [
      | true ↦ λ e. each_page_at f count (first + 1) n b.1 (leb-true _ _ e) (omega arith)
      | false ↦ λ e. let same : n ≡ first = grind (arith, nat_tests) in rw same b.0
    ] refl

-- of one run
pub run_pages : (f : ℕ → Bool) (run : PageRun) (n : ℕ) → each_page f run.first run.count ≡ true → in_run run n ≡ true → f n ≡ true
run_pages f run n h e =
    let i = both (leb run.first n) (ltb n (run.first + run.count)) e in
    each_page_at f run.count run.first n h (leb-true _ _ i.0) (grind (arith, nat_tests))

pub each_page_in_at : (f : ℕ → Bool) (runs : List PageRun) (n : ℕ) → each_page_in f runs ≡ true → covers runs n ≡ true → f n ≡ true
each_page_in_at f [] n h c = absurd cc
each_page_in_at f (run ∷ runs) n h c =
    let b = both (each_page f run.first run.count) (each_page_in f runs) h in
    elim (in_run run n) as (λ t. in_run run n ≡ t → f n ≡ true) [
      | true ↦ λ e. run_pages f run n b.0 e
      | false ↦ λ e. each_page_in_at f runs n b.1 (let h2 : (in_run run n || covers runs n) ≡ true = c in rw e at h2)
    ] refl

-- ---- a page that is free for a partition

pub record IsFreePage (s : State) (p n : ℕ) : Type 0 where
  pub owned : owns s p n ≡ true
  pub sharable : option_map_or is_sharable (region_at s.manifest n) false ≡ true
  pub idle : is_some (live_at s.live n) ≡ false
  pub unregistered : is_buffer s.mailboxes n ≡ false

pub is_not : (b : Bool) → not b ≡ true → b ≡ false
is_not true e = absurd cc
is_not false e = refl

pub free_page : (s : State) (p n : ℕ) → is_free s p n ≡ true → IsFreePage s p n
unfolding is_free
free_page s p n h =
    let y = both (is_idle s.manifest s.donations s.live p n) (not (is_buffer s.mailboxes n)) h in
    let z = both (owns s p n && option_map_or is_sharable (region_at s.manifest n) false) (not (is_some (live_at s.live n))) y.0 in
    let w = both (owns s p n) (option_map_or is_sharable (region_at s.manifest n) false) z.0 in
    record { owned = w.0; sharable = w.1; idle = is_not (is_some (live_at s.live n)) z.1; unregistered = is_not (is_buffer s.mailboxes n) y.1 }

-- it is free, and its home is this
pub record HasFreeHome (s : State) (p n : ℕ) (home : Access) : Type 0 where
  pub free : IsFreePage s p n
  pub has : home_of s n ≡ Some home

if_free : (free : Bool) (home : View) (a : Access) → cond free home None ≡ Some a → (free ≡ true) × (home ≡ Some a)
if_free true home a e = (refl, e)
if_free false home a e = absurd cc

pub has_free_home : (s : State) (p n : ℕ) (home : Access) → free_home s p n ≡ Some home → HasFreeHome s p n home
unfolding free_home
has_free_home s p n home e =
    let x = if_free (is_free s p n) (home_of s n) home e in
    record { free = free_page s p n x.0; has = x.1 }

pub owner_from_test : (o : Option ℕ) (p : ℕ) → option_map_or (λ x. eqb x p) o false ≡ true → o ≡ Some p
owner_from_test None p e = absurd cc
owner_from_test (Some x) p e = ap (λ (y : ℕ). Some y) (eqb-true x p e)

-- ---- pages with a common home

picked : (view : View) (f : Access → Bool) (home : Access) → option_and_then (λ a. cond (f a) (Some a) None) view ≡ Some home → f home ≡ true
picked None f home e = absurd cc
picked (Some a) f home e =
    elim (f a) as (λ b. f a ≡ b → cond b (Some a) None ≡ Some home → f home ≡ true) [
      | true ↦ λ t h. let same : a ≡ home = cc in subst (λ (x : Access). f x ≡ true) same t
      | false ↦ λ t h. absurd cc
    ] refl e

common_pages : (s : State) (p : ℕ) (runs : List PageRun) (home : Access) → common_home s p runs ≡ Some home → each_page_in (is_free_with s p home) runs ≡ true
unfolding common_home
common_pages s p [] home e = absurd cc
common_pages s p (run ∷ runs) home e = picked (free_home s p run.first) (λ a. each_page_in (is_free_with s p a) (run ∷ runs)) home e

pub common_at : (s : State) (p : ℕ) (runs : List PageRun) (home : Access) → common_home s p runs ≡ Some home → (n : ℕ) → covers runs n ≡ true → HasFreeHome s p n home
unfolding is_free_with
common_at s p runs home e n c =
    has_free_home s p n home (reached_with home (free_home s p n) (each_page_in_at (is_free_with s p home) runs n (common_pages s p runs home e) c))

-- ---- what partitions reach of a free page

pub not_eqb : (a b : ℕ) → a ≢ b → eqb a b ≡ false
not_eqb a b h = elim (eqb a b) as (λ k. eqb a b ≡ k → k ≡ false) [ true ↦ λ e. absurd (h (eqb-true a b e)) | false ↦ λ e. refl ] refl

pub eqb_sym : (a b : ℕ) → eqb a b ≡ eqb b a
eqb_sym a b =
    elim (eqb a b) as (λ t. eqb a b ≡ t → t ≡ eqb b a) [
      | true ↦ λ e. let same : a ≡ b = eqb-true a b e in sym (ap (λ (x : ℕ). eqb b x) same ∙ eq-eqb b b refl)
      | false ↦ λ e. grind (arith, nat_tests)
    ] refl

-- what is granted to one partition alone is granted to no other
pub only_grant : (kind : MemoryKind) (gs : List GrantRow) (p q : ℕ) (home : Access) → eqb (length gs) 1 ≡ true → option_map (access_of_grant kind) (find (λ g. eqb g.partition p) gs) ≡ Some home
    → option_map (access_of_grant kind) (find (λ g. eqb g.partition q) gs) ≡ cond (eqb q p) (Some home) None
only_grant kind [] p q home one h = absurd cc
only_grant kind (g ∷ []) p q home one h =
    elim (eqb g.partition p) as (λ b. eqb g.partition p ≡ b → option_map (access_of_grant kind) (cond b (Some g) None) ≡ Some home → option_map (access_of_grant kind) (cond (eqb g.partition q) (Some g) None) ≡ cond (eqb q p) (Some home) None) [
      | true ↦ λ e k.
          let same : g.partition ≡ p = eqb-true _ _ e in
          elim (eqb q p) as (λ b. eqb q p ≡ b → option_map (access_of_grant kind) (cond (eqb g.partition q) (Some g) None) ≡ cond b (Some home) None) [
            | true ↦ λ f. let is : q ≡ p = eqb-true _ _ f in let here : eqb g.partition q ≡ true = eq-eqb _ _ (same ∙ sym is) in rw here k
            | false ↦ λ f. let other : eqb g.partition q ≡ false = grind (arith, nat_tests) in rw other refl
          ] refl
      | false ↦ λ e k. absurd cc
    ] refl h
only_grant kind (g ∷ f ∷ gs) p q home one h = absurd (omega (arith, eqb-true _ _ one))

-- a page that may be shared is reached by its owner, with its home, and by no other partition
pub settled : (g : Option Gift) (r : Option RegionRow) (p q : ℕ) (home : Access)
    → option_map_or (λ o. eqb o p) (option_map_or (λ (d : Gift). Some d.taker) g (option_map (λ (x : RegionRow). x.owner) r)) false ≡ true
    → option_map_or is_sharable r false ≡ true
    → option_map_or (λ (d : Gift). Some d.access) g (option_and_then (λ (x : RegionRow). granted_in x x.owner) r) ≡ Some home
    → option_map_or (λ (d : Gift). cond (eqb d.taker q) (Some d.access) None) g (option_and_then (λ (x : RegionRow). granted_in x q) r) ≡ cond (eqb q p) (Some home) None
settled (Some d) r p q home owned sharable has =
    let e : d.taker ≡ p = eqb-true _ _ owned in
    let turned : eqb p q ≡ eqb q p = eqb_sym p q in
    rw (e, has, turned) refl
settled None None p q home owned sharable has = absurd cc
settled None (Some r) p q home owned sharable has =
    let e : r.owner ≡ p = eqb-true _ _ owned in
    only_grant r.kind r.grants p q home (both (is_normal r.kind) (eqb (length r.grants) 1) sharable).1 (rw e at has)

-- its owner reaches it with its home, and all others nothing of it
pub settled_is : (s : State) (p q n : ℕ) (home : Access) → HasFreeHome s p n home → settled_view s.manifest s.donations q n ≡ cond (eqb q p) (Some home) None
settled_is s p q n home k =
    settled (donation_at s.donations n) (region_at s.manifest n) p q home k.free.owned k.free.sharable k.has
