-- A donation is completed: its pages have a new owner and a new home, and all others theirs.
use Rattle.std.proofs.Common.{◌≡◌, ℕ, Bool, true, false, cond, eqb, List, [], ◌∷◌, length, Option, Some, None, refl, ap, ◌∙◌, find, subst}
use Rattle.std.specs.List.{AllByRecursion}
use Rattle.std.specs.Option.{option_map, option_and_then, option_map_or}
use Rattle.base.specs.Access.{Access, is_normal}
use Rattle.base.specs.Ledger.{donation_at, owner, home, settled_view, left_of, with_donation_of}
use Rattle.base.specs.Manifest.{ManifestRows, RegionRow, region_at, granted_in, grant}
use Rattle.base.specs.Pages.{PageRun, covers}
use Rattle.base.specs.Transactions.{Live, Gift, Donation, without, gift}
use Rattle.base.specs.State.{State, owner_of, home_of}
use Rattle.base.proofs.Booleans.{both}
use Rattle.base.proofs.Donations.{donation-after, by-either, left-owner, left-home}
use Rattle.rules.specs.Calls.Retrieve.{with_donation}
use Rattle.rules.specs.Laws.OneOwner.{AreApart, AreAllApart}
use Rattle.rules.proofs.Ended.{found_in, some_is, turned}
use Rattle.rules.proofs.FreePages.{only_grant, eqb_sym}

-- what is read off what a page's donations leave
read_after : {X : Type 0} (m : ManifestRows) (runs : List PageRun) (g : Gift) (ds : List Donation) (n : ℕ) (f : Gift → X) (x y : X) → option_map_or f (left_of m g n) x ≡ y → option_map_or f (donation_at (with_donation_of m runs g ds) n) x ≡ cond (covers runs n) y (option_map_or f (donation_at ds n) x)
read_after m runs g ds n f x y given =
    ap (λ (o : Option Gift). option_map_or f o x) (donation-after m runs g ds n)
    ∙ elim (covers runs n) as (λ b. option_map_or f (cond b (left_of m g n) (donation_at ds n)) x ≡ cond b y (option_map_or f (donation_at ds n) x)) [
      | true ↦ given
      | false ↦ refl
    ]

-- the taker alone reaches the page
left-view : (m : ManifestRows) (g : Gift) (q n : ℕ) → option_map_or (λ (h : Gift). cond (eqb h.taker q) (Some h.access) None) (left_of m g n) (grant m q n) ≡ cond (eqb g.taker q) (Some g.access) None
left-view m g q n =
    by-either (region_at m n) g (λ (h : Gift). cond (eqb h.taker q) (Some h.access) None) (grant m q n) (λ r is so.
    let one = (both (is_normal r.kind) (eqb (length r.grants) 1) so.sharable).1 in
    ap (option_and_then (λ (x : RegionRow). granted_in x q)) is
    ∙ only_grant r.kind r.grants r.owner q g.access one so.access
    ∙ ap (λ (b : Bool). cond b (Some g.access) None) (eqb_sym q r.owner ∙ ap (λ (o : ℕ). eqb o q) so.owner))

pub owner_after : (m : ManifestRows) (runs : List PageRun) (g : Gift) (ds : List Donation) (n : ℕ) → owner m (with_donation_of m runs g ds) n ≡ cond (covers runs n) (Some g.taker) (owner m ds n)
owner_after m runs g ds n = read_after m runs g ds n (λ (h : Gift). Some h.taker) (option_map (λ (r : RegionRow). r.owner) (region_at m n)) (Some g.taker) (left-owner m g n)

pub home_after : (m : ManifestRows) (runs : List PageRun) (g : Gift) (ds : List Donation) (n : ℕ) → home m (with_donation_of m runs g ds) n ≡ cond (covers runs n) (Some g.access) (home m ds n)
home_after m runs g ds n = read_after m runs g ds n (λ (h : Gift). Some h.access) (option_and_then (λ (r : RegionRow). granted_in r r.owner) (region_at m n)) (Some g.access) (left-home m g n)

module _ (s : State) (p : ℕ) (t : Live) (access : Access) (n : ℕ) where
  pub given_owner : owner_of (with_donation s p t access) n ≡ cond (covers t.ranges n) (Some p) (owner_of s n)
  unfolding with_donation
  given_owner = owner_after s.manifest t.ranges (gift p access) s.donations n

  pub given_home : home_of (with_donation s p t access) n ≡ cond (covers t.ranges n) (Some access) (home_of s n)
  unfolding with_donation
  given_home = home_after s.manifest t.ranges (gift p access) s.donations n

  pub given_view : (q : ℕ) → settled_view s.manifest (with_donation s p t access).donations q n ≡ cond (covers t.ranges n) (cond (eqb p q) (Some access) None) (settled_view s.manifest s.donations q n)
  unfolding with_donation
  given_view q =
      read_after s.manifest t.ranges (gift p access) s.donations n (λ (g : Gift). cond (eqb g.taker q) (Some g.access) None) (grant s.manifest q n) (cond (eqb p q) (Some access) None) (left-view s.manifest (gift p access) q n)

-- the transactions that stay are apart from the one that has ended
pub others_apart : (h : ℕ) (ts : List Live) (t : Live) → AreAllApart ts → find (λ u. eqb u.handle h) ts ≡ Some t → AllByRecursion (λ u. AreApart u t) (without h ts)
others_apart h [] t a e = absurd cc
others_apart h (u ∷ us) t a e =
    elim (eqb u.handle h) as (λ b. cond b (Some u) (find (λ v. eqb v.handle h) us) ≡ Some t → AllByRecursion (λ v. AreApart v t) (cond b us (u ∷ without h us))) [
      | true ↦ λ k. let is : u ≡ t = some_is u t k in subst (λ (w : Live). AllByRecursion (λ v. AreApart v w) us) is (turned u us a.0)
      | false ↦ λ k. (found_in (AreApart u) (λ v. eqb v.handle h) us t k a.0, others_apart h us t a.1 k)
    ] e
