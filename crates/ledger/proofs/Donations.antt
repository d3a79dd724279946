-- What the numbers of pages say, and what donations have left by them.
use Rattle.std.proofs.Common.{◌≡◌, ℕ, ◌+◌, ◌<◌, ◌≤◌, Bool, true, false, cond, List, [], ◌∷◌, ◌++◌, map, Option, Some, None, refl, sym, ap, ◌∙◌, arith}
use Rattle.std.specs.Option.{option_map, option_and_then, option_map_or}
use Rattle.std.proofs.lemmas.Bool.Decides.{nat_tests}
use Rattle.base.specs.Manifest.{ManifestRows, RegionRow, region_at, granted_in}
use Rattle.base.specs.Pages.{PageRun, covers, in_run}
use Rattle.base.specs.Runs.{maximal_runs, end_of_all}
use Rattle.base.specs.Transactions.{Gift, Donation, is_same_gift}
use Rattle.base.specs.Ledger.{donation_at, left_of, left_after, with_donation_of}
use Rattle.base.proofs.Donations.{gift-sound, gift-self, left-behind, left-owner, left-home}
use Rattle.base.proofs.MaximalRuns.{at-each, none-until, some-until, runs-same, same-bounds}
use Rattle.spans.specs.Spans.{Span, value_at}
use Rattle.ledger.specs.Gifts.{gift_of, owner_by, home_by, Says, left_by, left_at, left, with_left}

-- no page behind all intervals has a number
value-behind : (given : List Span) (n : ℕ) → end_of_all (map (λ (s : Span). s.run) given) ≤ n → value_at given n ≡ None
value-behind [] n le = refl
value-behind (s ∷ ss) n le =
    let here : s.run.first + s.run.count ≤ n = omega (arith, le) in
    let out : in_run s.run n ≡ false = grind (arith, nat_tests) in
    ap (λ (b : Bool). cond b (Some s.value) (value_at ss n)) out ∙ value-behind ss n (omega (arith, le))

left_at-behind : (m : ManifestRows) (given : List Span) (n : ℕ) → end_of_all (map (λ (s : Span). s.run) given) ≤ n → left_at m given n ≡ None
left_at-behind m given n le = ap (λ (v : Option ℕ). left_by m v n) (value-behind given n le)

pub donation-left : (m : ManifestRows) (given : List Span) (n : ℕ) → donation_at (left m given) n ≡ left_at m given n
unfolding left
donation-left m given n = at-each is_same_gift gift-sound (left_at m given) (end_of_all (map (λ (s : Span). s.run) given)) (left_at-behind m given) n

pub says-left : (m : ManifestRows) (given : List Span) (n : ℕ) → Says m (left m given) n (option_map gift_of (value_at given n))
says-left m given n =
    let region = region_at m n in
    record {
      owner = ap (λ (o : Option Gift). option_map_or (λ (g : Gift). Some g.taker) o (option_map (λ (r : RegionRow). r.owner) region)) (donation-left m given n) ∙ of-owner (value_at given n);
      home = ap (λ (o : Option Gift). option_map_or (λ (g : Gift). Some g.access) o (option_and_then (λ (r : RegionRow). granted_in r r.owner) region)) (donation-left m given n) ∙ of-home (value_at given n);
    }
  where
    of-owner : (v : Option ℕ) → option_map_or (λ (g : Gift). Some g.taker) (left_by m v n) (option_map (λ (r : RegionRow). r.owner) (region_at m n)) ≡ owner_by (option_map gift_of v) (region_at m n)
    of-owner None = refl
    of-owner (Some k) = left-owner m (gift_of k) n

    of-home : (v : Option ℕ) → option_map_or (λ (g : Gift). Some g.access) (left_by m v n) (option_and_then (λ (r : RegionRow). granted_in r r.owner) (region_at m n)) ≡ home_by (option_map gift_of v) (region_at m n)
    of-home None = refl
    of-home (Some k) = left-home m (gift_of k) n

-- no page has a number that the manifest does not spell
pub left-none : (m : ManifestRows) (given : List Span) → ((n : ℕ) → left_at m given n ≡ None) → left m given ≡ []
unfolding left maximal_runs
left-none m given none = none-until is_same_gift (left_at m given) 0 (end_of_all (map (λ (s : Span). s.run) given)) (omega arith) (λ n from lt. none n)

-- ---- the pages of some runs get the number of one gift

module _ (m : ManifestRows) (runs : List PageRun) (g : Gift) (k : ℕ) (old new : List Span) (spells : gift_of k ≡ g) (at : (n : ℕ) → value_at new n ≡ cond (covers runs n) (Some k) (value_at old n)) where
  left_at-new : (n : ℕ) → left_at m new n ≡ left_after m runs g (left m old) n
  left_at-new n =
      ap (λ (v : Option ℕ). left_by m v n) (at n)
      ∙ elim (covers runs n) as (λ b. left_by m (cond b (Some k) (value_at old n)) n ≡ cond b (left_of m g n) (donation_at (left m old) n)) [
        | true ↦ ap (λ (h : Gift). left_of m h n) spells
        | false ↦ sym (donation-left m old n)
      ]

  pub left-new : left m new ≡ with_donation_of m runs g (left m old)
  unfolding left with_donation_of
  left-new =
      let ends = end_of_all (map (λ (s : Span). s.run) new) in
      let after = end_of_all (runs ++ map (λ (d : Donation). d.run) (left m old)) in
      same-bounds is_same_gift (left_at m new) ends after (left_at-behind m new) (λ n le. left_at-new n ∙ left-behind m runs g (left m old) n le)
      ∙ runs-same is_same_gift (left_after m runs g (left m old)) (left_at m new) after (λ i lt. left_at-new i)

-- ---- what is left as a list

segment : (f : ℕ → Option Gift) (b end : ℕ) (o : Option Gift) → b < end → ((n : ℕ) → b ≤ n → n < end → f n ≡ o) → with_left (maximal_runs is_same_gift f b) b end o ≡ maximal_runs is_same_gift f end
segment f b end None lt all = sym (none-until is_same_gift f b end (omega (arith, lt)) all)
segment f b end (Some g) lt all = sym (some-until is_same_gift f b end g lt (gift-self g) all)

-- some pages more
pub left-more : (m : ManifestRows) (given : List Span) (b page end : ℕ) (found new : List Donation) (o : Option Gift) → page ≡ b → page < end → ((n : ℕ) → page ≤ n → n < end → left_at m given n ≡ o)
    → found ≡ maximal_runs is_same_gift (left_at m given) b → new ≡ with_left found page end o → new ≡ maximal_runs is_same_gift (left_at m given) end
left-more m given b page end found new o at lt all so now =
    now ∙ ap (λ (t : List Donation). with_left t page end o) (so ∙ ap (maximal_runs is_same_gift (left_at m given)) (sym at))
    ∙ segment (left_at m given) page end o lt all

-- all pages that have a number
pub left-all : (m : ManifestRows) (given : List Span) (end number : ℕ) (found : List Donation) → end ≤ number → ((n : ℕ) → end ≤ n → value_at given n ≡ None) → found ≡ maximal_runs is_same_gift (left_at m given) number → found ≡ left m given
unfolding left
left-all m given end number found le behind so =
    so ∙ same-bounds is_same_gift (left_at m given) number (end_of_all (map (λ (s : Span). s.run) given)) (λ n from. ap (λ (v : Option ℕ). left_by m v n) (behind n (omega (arith, le, from)))) (left_at-behind m given)
