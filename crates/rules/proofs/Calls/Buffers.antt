-- What is known of FFA_RXTX_MAP where it passes its tests, and of the buffers after a change of a pair.
use Rattle.std.proofs.Common.{◌≡◌, ℕ, Bool, true, false, ◌||◌, ◌⊎◌, inl, inr, cond, eqb, List, [], ◌∷◌, Option, Some, None, refl}
use Rattle.std.specs.Option.{option_map, option_map_or, option_and_then}
use Rattle.std.specs.List.{find}
use Rattle.base.specs.Access.{View, is_rw}
use Rattle.base.specs.Buffers.{Pair, Mailbox, pair_of, in_pair, is_buffer, with_pair, with_rx, holding, named_pair}
use Rattle.base.specs.Pages.{in_run}
use Rattle.base.specs.Refusals.{first_refusal}
use Rattle.base.specs.State.{State, free_home}
use Rattle.rules.specs.Calls.Buffers.{may_be_buffer, may_be_buffers, map_tests}
use Rattle.base.proofs.Booleans.{both}
use Rattle.rules.proofs.Passing.{all_pass}
use Rattle.rules.proofs.FreePages.{IsFreePage, has_free_home, run_pages}

-- each page of its areas may be a buffer
pub record MapPasses (s : State) (p tx rx count : ℕ) : Type 0 where
  pub tx_pages : may_be_buffers s p (named_pair tx rx count).tx ≡ true
  pub rx_pages : may_be_buffers s p (named_pair tx rx count).rx ≡ true

pub map_passes : (s : State) (p tx rx count : ℕ) → first_refusal (map_tests s p tx rx count) ≡ None → MapPasses s p tx rx count
map_passes s p tx rx count e =
    let pages = both (may_be_buffers s p (named_pair tx rx count).tx) (may_be_buffers s p (named_pair tx rx count).rx) (all_pass (map_tests s p tx rx count) e).1.1.0 in
    record { tx_pages = pages.0; rx_pages = pages.1 }

free_from : (s : State) (p n : ℕ) (home : View) → free_home s p n ≡ home → option_map_or (λ a. is_rw a.rights) home false ≡ true → IsFreePage s p n
free_from s p n None e h = absurd cc
free_from s p n (Some a) e h = (has_free_home s p n a e).free

buffer_page : (s : State) (p n : ℕ) → may_be_buffer s p n ≡ true → IsFreePage s p n
unfolding may_be_buffer
buffer_page s p n h = free_from s p n (free_home s p n) refl h

either : (a b : Bool) → (a || b) ≡ true → (a ≡ true) ⊎ (b ≡ true)
either true b e = inl refl
either false b e = inr e

pub or_left : (a b : Bool) → a ≡ true → (a || b) ≡ true
or_left true b e = refl
or_left false b e = absurd cc

pub or_right : (a b : Bool) → b ≡ true → (a || b) ≡ true
or_right true b e = refl
or_right false b e = e

-- each page of the areas is free
pub mapped_page : (s : State) (p tx rx count n : ℕ) → MapPasses s p tx rx count → in_pair (named_pair tx rx count) n ≡ true → IsFreePage s p n
mapped_page s p tx rx count n k e =
    let pair = named_pair tx rx count in
    elim (either (in_run pair.tx n) (in_run pair.rx n) e) [
      | inl t ↦ buffer_page s p n (run_pages (may_be_buffer s p) pair.tx n k.tx_pages t)
      | inr r ↦ buffer_page s p n (run_pages (may_be_buffer s p) pair.rx n k.rx_pages r)
    ]

-- a page of a buffer after the change of a pair is of the new pair, or was of a buffer before
pub buffer_after : (p : ℕ) (pair : Option Pair) (boxes : List Mailbox) (n : ℕ) → is_buffer (with_pair p pair boxes) n ≡ true → (option_map_or (λ a. in_pair a n) pair false ≡ true) ⊎ (is_buffer boxes n ≡ true)
buffer_after p pair [] n e = absurd cc
buffer_after p pair (b ∷ boxes) n e =
    elim (eqb b.partition p) as (λ t. is_buffer (cond t (record b { pair = pair } ∷ boxes) (b ∷ with_pair p pair boxes)) n ≡ true → (option_map_or (λ a. in_pair a n) pair false ≡ true) ⊎ (is_buffer (b ∷ boxes) n ≡ true)) [
      | true ↦ λ h. elim (either (option_map_or (λ a. in_pair a n) pair false) (is_buffer boxes n) h) [ inl x ↦ inl x | inr y ↦ inr (or_right (option_map_or (λ a. in_pair a n) b.pair false) (is_buffer boxes n) y) ]
      | false ↦ λ h. elim (either (option_map_or (λ a. in_pair a n) b.pair false) (is_buffer (with_pair p pair boxes) n) h) [
        | inl x ↦ inr (or_left (option_map_or (λ a. in_pair a n) b.pair false) (is_buffer boxes n) x)
        | inr y ↦ elim (buffer_after p pair boxes n y) [ inl x ↦ inl x | inr z ↦ inr (or_right (option_map_or (λ a. in_pair a n) b.pair false) (is_buffer boxes n) z) ]
      ]
    ] e

-- the pages of a partition's pair are of a buffer
pair_page : (p : ℕ) (boxes : List Mailbox) (n : ℕ) → option_map_or (λ a. in_pair a n) (pair_of boxes p) false ≡ true → is_buffer boxes n ≡ true
pair_page p [] n e = absurd cc
pair_page p (b ∷ boxes) n e =
    elim (eqb b.partition p) as (λ t. option_map_or (λ a. in_pair a n) (option_and_then (λ (x : Mailbox). x.pair) (cond t (Some b) (find (λ (x : Mailbox). eqb x.partition p) boxes))) false ≡ true → is_buffer (b ∷ boxes) n ≡ true) [
      | true ↦ λ h. or_left (option_map_or (λ a. in_pair a n) b.pair false) (is_buffer boxes n) h
      | false ↦ λ h. or_right (option_map_or (λ a. in_pair a n) b.pair false) (is_buffer boxes n) (pair_page p boxes n h)
    ] e

pub held_alike : (held : Bool) (pair : Option Pair) (n : ℕ) → option_map_or (λ a. in_pair a n) (option_map (holding held) pair) false ≡ option_map_or (λ a. in_pair a n) pair false
held_alike held None n = refl
held_alike held (Some a) n = refl

-- whether RX is held changes no buffer
pub buffer_after_rx : (p : ℕ) (held : Bool) (boxes : List Mailbox) (n : ℕ) → is_buffer (with_rx p held boxes) n ≡ true → is_buffer boxes n ≡ true
buffer_after_rx p held boxes n e =
    elim (buffer_after p (option_map (holding held) (pair_of boxes p)) boxes n e) [
      | inl x ↦ pair_page p boxes n (rw (held_alike held (pair_of boxes p) n) at x)
      | inr y ↦ y
    ]
