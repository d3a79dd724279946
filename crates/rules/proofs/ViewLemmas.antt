-- What each partition reaches before and after a change of the state.
use Rattle.std.proofs.Common.{◌≡◌, ℕ, Bool, true, false, ◌&&◌, cond, eqb, List, [], ◌∷◌, map, Option, Some, None, is_some, refl, sym, ap, ◌∙◌, find}
use Rattle.std.specs.Option.{option_and_then, option_map_or}
use Rattle.base.specs.declared.transaction.Kind.{Kind}
use Rattle.base.specs.declared.transaction.Kind.TheVariants.{Share, Lend, Donate}
use Rattle.base.specs.Pages.{PageRun, covers}
use Rattle.base.specs.Access.{Access, View}
use Rattle.base.specs.Transactions.{Receiver, Live, with_live}
use Rattle.base.specs.Ledger.{live_at, retrieved, kept, view_under, settled_view}
use Rattle.base.specs.State.{State, sees, home_of}
use Rattle.base.specs.Descriptors.Send.{Send, Endpoint}
use Rattle.base.proofs.Ascending.{find-new, find-other}
use Rattle.rules.specs.Rule.{with_edit}
use Rattle.rules.specs.Calls.Send.{receiver, opened, with_transaction, sender_edit}
use Rattle.rules.proofs.FreePages.{HasFreeHome, settled_is, eqb_sym}

-- ---- manifest, donations and live transactions alone decide

pub record IsSeenAlike (s t : State) : Type 0 where
  pub manifest : t.manifest ≡ s.manifest
  pub donations : t.donations ≡ s.donations
  pub live : t.live ≡ s.live

pub seen_alike : (s t : State) → IsSeenAlike s t → (q n : ℕ) → sees t q n ≡ sees s q n
seen_alike s t same q n = rw (same.manifest, same.donations, same.live) refl

-- ---- one more transaction

none_is : (o : Option Live) → is_some o ≡ false → o ≡ None
none_is None e = refl
none_is (Some u) e = absurd cc

pub live_at-new : (ts : List Live) (t : Live) (n : ℕ) → covers t.ranges n ≡ true → is_some (live_at ts n) ≡ false → live_at (with_live t ts) n ≡ Some t
live_at-new ts t n c idle = find-new (λ u. covers u.ranges n) t ts c (none_is (live_at ts n) idle)

pub live_at-other : (ts : List Live) (t : Live) (n : ℕ) → covers t.ranges n ≡ false → live_at (with_live t ts) n ≡ live_at ts n
live_at-other ts t n c = find-other (λ u. covers u.ranges n) t ts c

-- of receivers that have retrieved nothing
pub none_retrieved : (f : Endpoint → Receiver) → ((e : Endpoint) → (f e).retrieved ≡ None) → (es : List Endpoint) (q : ℕ) → retrieved (map f es) q ≡ None
none_retrieved f h [] q = refl
none_retrieved f h (e ∷ es) q =
    elim (eqb (f e).partition q) as (λ b. option_and_then (λ (r : Receiver). r.retrieved) (cond b (Some (f e)) (find (λ r. eqb r.partition q) (map f es))) ≡ None) [
      | true ↦ h e
      | false ↦ none_retrieved f h es q
    ]

-- ---- a send

covered_edit : (k : Kind) (p : ℕ) (runs : List PageRun) (clears : Bool) (view : ℕ → ℕ → View) (home : Access) (q n : ℕ) → covers runs n ≡ true → view q n ≡ cond (eqb q p) (Some home) None
    → with_edit (sender_edit k p runs clears) view q n ≡ cond (eqb q p) (kept k (Some home)) None
covered_edit Share p runs clears view home q n c before = before
covered_edit Lend p runs clears view home q n c before = rw (c, before) (elim (eqb q p) as (λ b. cond (b && true) None (cond b (Some home) None) ≡ cond b None None) [ true ↦ refl | false ↦ refl ])
covered_edit Donate p runs clears view home q n c before = rw (c, before) (elim (eqb q p) as (λ b. cond (b && true) None (cond b (Some home) None) ≡ cond b None None) [ true ↦ refl | false ↦ refl ])

other_edit : (k : Kind) (p : ℕ) (runs : List PageRun) (clears : Bool) (view : ℕ → ℕ → View) (q n : ℕ) → covers runs n ≡ false → with_edit (sender_edit k p runs clears) view q n ≡ view q n
other_edit Share p runs clears view q n c = refl
other_edit Lend p runs clears view q n c = rw c (elim (eqb q p) as (λ b. cond (b && false) None (view q n) ≡ view q n) [ true ↦ refl | false ↦ refl ])
other_edit Donate p runs clears view q n c = rw c (elim (eqb q p) as (λ b. cond (b && false) None (view q n) ≡ view q n) [ true ↦ refl | false ↦ refl ])

none_live : (o : Option Live) (f : Live → View) (d : View) → is_some o ≡ false → option_map_or f o d ≡ d
none_live None f d e = refl
none_live (Some t) f d e = absurd cc

-- a free page is reached by its owner, with its home, and by no other partition
pub free_view : (s : State) (p q n : ℕ) (home : Access) → HasFreeHome s p n home → sees s q n ≡ cond (eqb q p) (Some home) None
free_view s p q n home a = none_live (live_at s.live n) (λ u. view_under u (home_of s n) q) (settled_view s.manifest s.donations q n) a.free.idle ∙ settled_is s p q n home a

-- after a send of pages that are free and have a common home, what the sender reaches of them is what it keeps
pub opened_view : (s : State) (p : ℕ) (k : Kind) (v : Send) (home : Access) → ((n : ℕ) → covers v.ranges n ≡ true → HasFreeHome s p n home)
    → (q n : ℕ) → sees (with_transaction s (opened s p k v home)) q n ≡ with_edit (sender_edit k p v.ranges v.clears) (sees s) q n
unfolding with_transaction
opened_view s p k v home free q n =
    let t = opened s p k v home in
    let after = λ (o : Option Live). option_map_or (λ (u : Live). view_under u (home_of s n) q) o (settled_view s.manifest s.donations q n) in
    elim (covers v.ranges n) as (λ b. covers v.ranges n ≡ b → sees (with_transaction s t) q n ≡ with_edit (sender_edit k p v.ranges v.clears) (sees s) q n) [
      | true ↦ λ c.
          let a = free n c in
          let before = free_view s p q n home a in
          let none : retrieved t.receivers q ≡ None = none_retrieved (receiver k home) (λ e. refl) v.receivers q in
          let new : view_under t (home_of s n) q ≡ cond (eqb q p) (kept k (Some home)) None = ap (λ x. cond (eqb p q) (kept k (home_of s n)) x) none ∙ ap (λ b. cond b (kept k (home_of s n)) None) (eqb_sym p q) ∙ ap (λ h. cond (eqb q p) (kept k h) None) a.has in
          ap after (live_at-new s.live t n c a.free.idle) ∙ new ∙ sym (covered_edit k p v.ranges v.clears (sees s) home q n c before)
      | false ↦ λ c. ap after (live_at-other s.live t n c) ∙ sym (other_edit k p v.ranges v.clears (sees s) q n c)
    ] refl
