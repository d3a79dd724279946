-- What donations leave: who owns a page after one, and what the page is to it.
use Rattle.std.proofs.Common.{◌≡◌, ℕ, ◌≤◌, Bool, true, false, ◌&&◌, cond, eqb, List, ◌++◌, map, Option, Some, None, refl, ap, ◌∙◌, arith}
use Rattle.std.specs.Option.{option_map, option_and_then, option_map_or}
use Rattle.std.proofs.lemmas.Bool.{eqb-true, eq-eqb}
use Rattle.base.specs.Access.{Access, is_same, is_reached_with}
use Rattle.base.specs.Pages.{PageRun, covers}
use Rattle.base.specs.Runs.{end_of_all}
use Rattle.base.specs.Manifest.{ManifestRows, RegionRow, region_at, granted_in, is_sharable}
use Rattle.base.specs.Transactions.{Gift, Donation, gift, is_same_gift}
use Rattle.base.specs.Ledger.{donation_at, is_granted_in, left_of, left_after, with_donation_of}
use Rattle.base.proofs.Accesses.{same_access, same_self, reached_with}
use Rattle.base.proofs.Booleans.{both, and_true}
use Rattle.base.proofs.MaximalRuns.{IsSound, at-each, end-front, end-back, covers-behind, valued-behind}

pub gift-sound : IsSound is_same_gift
gift-sound a b e =
    let two = both (eqb a.taker b.taker) (is_same a.access b.access) e in
    ap (λ (p : ℕ). gift p a.access) (eqb-true a.taker b.taker two.0) ∙ ap (λ (v : Access). gift b.taker v) (same_access a.access b.access two.1)

pub gift-self : (g : Gift) → is_same_gift g g ≡ true
gift-self g = and_true (eqb g.taker g.taker) (is_same g.access g.access) (eq-eqb g.taker g.taker refl) (same_self g.access)

module _ (m : ManifestRows) (runs : List PageRun) (g : Gift) (ds : List Donation) where
  pub left-behind : (n : ℕ) → end_of_all (runs ++ map (λ (d : Donation). d.run) ds) ≤ n → left_after m runs g ds n ≡ None
  left-behind n le =
      let pages = map (λ (d : Donation). d.run) ds in
      let out : covers runs n ≡ false = covers-behind runs n (omega (arith, end-front runs pages, le)) in
      ap (λ (b : Bool). cond b (left_of m g n) (donation_at ds n)) out ∙ valued-behind ds n (omega (arith, end-back runs pages, le))

  -- what a donation leaves of each page
  pub donation-after : (n : ℕ) → donation_at (with_donation_of m runs g ds) n ≡ left_after m runs g ds n
  unfolding with_donation_of
  donation-after n = at-each is_same_gift gift-sound (left_after m runs g ds) (end_of_all (runs ++ map (λ (d : Donation). d.run) ds)) left-behind n

-- ---- a page that has come back as the manifest has it

pub record IsGrantedIn (r : RegionRow) (g : Gift) : Type 0 where
  pub sharable : is_sharable r ≡ true
  pub owner : r.owner ≡ g.taker
  pub access : granted_in r r.owner ≡ Some g.access

pub granted-in : (r : RegionRow) (g : Gift) → is_granted_in (Some r) g ≡ true → IsGrantedIn r g
unfolding is_granted_in
granted-in r g e =
    let two = both (is_sharable r && eqb r.owner g.taker) (is_reached_with g.access (granted_in r r.owner)) e in
    let one = both (is_sharable r) (eqb r.owner g.taker) two.0 in
    record { sharable = one.0; owner = eqb-true r.owner g.taker one.1; access = reached_with g.access (granted_in r r.owner) two.1 }

-- what is read off the gift, where it is left, and else off the region
pub by-either : {X : Type 0} (o : Option RegionRow) (g : Gift) (f : Gift → X) (x : X) → ((r : RegionRow) → o ≡ Some r → IsGrantedIn r g → x ≡ f g) → option_map_or f (cond (is_granted_in o g) None (Some g)) x ≡ f g
unfolding is_granted_in
by-either None g f x same = refl
by-either (Some r) g f x same =
    elim (is_granted_in (Some r) g) as (λ b. is_granted_in (Some r) g ≡ b → option_map_or f (cond b None (Some g)) x ≡ f g) [
      | true ↦ λ e. same r refl (granted-in r g e)
      | false ↦ λ e. refl
    ] refl

-- the taker owns the page, with the access
pub left-owner : (m : ManifestRows) (g : Gift) (n : ℕ) → option_map_or (λ (h : Gift). Some h.taker) (left_of m g n) (option_map (λ (r : RegionRow). r.owner) (region_at m n)) ≡ Some g.taker
left-owner m g n = by-either (region_at m n) g (λ (h : Gift). Some h.taker) (option_map (λ (r : RegionRow). r.owner) (region_at m n)) (λ r is so. ap (option_map (λ (x : RegionRow). x.owner)) is ∙ ap (λ (p : ℕ). Some p) so.owner)

pub left-home : (m : ManifestRows) (g : Gift) (n : ℕ) → option_map_or (λ (h : Gift). Some h.access) (left_of m g n) (option_and_then (λ (r : RegionRow). granted_in r r.owner) (region_at m n)) ≡ Some g.access
left-home m g n = by-either (region_at m n) g (λ (h : Gift). Some h.access) (option_and_then (λ (r : RegionRow). granted_in r r.owner) (region_at m n)) (λ r is so. ap (option_and_then (λ (x : RegionRow). granted_in x x.owner)) is ∙ so.access)
