-- The buffers of partitions: which are registered, and the tests of the calls that change them
-- (FF-A 1.1, "RX/TX buffers", "FFA_RXTX_MAP", "FFA_RXTX_UNMAP", "FFA_RX_RELEASE").
use Rattle.std.specs.Prelude.{◌≡◌, ℕ, ◌+◌, ◌/◌, ◌%◌, ◌^◌, Bool, true, false, ◌&&◌, ◌||◌, ◌==◌, not, nat_le, List, [], ◌∷◌, Option, None, is_some, if◌then◌else◌}
use Rattle.std.specs.List.{list_any, find}
use Rattle.std.specs.Option.{option_map, option_map_or, option_and_then}
use Rattle.base.specs.declared.status.Status.TheVariants.{InvalidParameters, Busy, Denied}
use Rattle.base.specs.Pages.{PageRun, in_run, are_apart}
use Rattle.base.specs.Manifest.{PartitionRow}
use Rattle.base.specs.Refusals.{Test, ◌otherwise◌, NoneRefuses}

-- the TX and the RX buffer of a partition, and whether it holds RX
pub record Pair : Type 0 where
  pub tx : PageRun
  pub rx : PageRun
  pub held : Bool

-- a partition, and its pair where one is registered
pub record Mailbox : Type 0 where
  pub partition : ℕ
  pub pair : Option Pair

abbrev pub first_mailbox : PartitionRow → Mailbox
first_mailbox row = record { partition = row.id; pair = None }

-- ---- what is registered

abbrev pub pair_of : List Mailbox → ℕ → Option Pair
pair_of boxes p = option_and_then (λ b. b.pair) (find (λ b. b.partition == p) boxes)

unfoldable pub has_pair : List Mailbox → ℕ → Bool
has_pair boxes p = is_some (pair_of boxes p)

unfoldable pub holds_rx : List Mailbox → ℕ → Bool
holds_rx boxes p = option_map_or (λ pair. pair.held) (pair_of boxes p) false

abbrev pub in_pair : Pair → ℕ → Bool
in_pair pair n = in_run pair.tx n || in_run pair.rx n

-- the page lies in a registered buffer
abbrev pub is_buffer : List Mailbox → ℕ → Bool
is_buffer boxes n = list_any (λ b. option_map_or (λ pair. in_pair pair n) b.pair false) boxes

-- ---- what calls make of it

-- this is the partition's pair, or it has none
abbrev pub with_pair : ℕ → Option Pair → List Mailbox → List Mailbox
with_pair p pair [] = []
with_pair p pair (b ∷ boxes) =
    if b.partition == p then record b { pair = pair } ∷ boxes else b ∷ with_pair p pair boxes

abbrev pub holding : Bool → Pair → Pair
holding held pair = record pair { held = held }

-- whether the partition holds RX from now on
abbrev pub with_rx : ℕ → Bool → List Mailbox → List Mailbox
with_rx p held boxes = with_pair p (option_map (holding held) (pair_of boxes p)) boxes

-- ---- the pair that FFA_RXTX_MAP names

abbrev pub area : ℕ → ℕ → PageRun
area address count = record { first = address / 4096; count = count }

-- two areas of so many pages from these addresses, with RX not held
abbrev pub named_pair : ℕ → ℕ → ℕ → Pair
named_pair tx rx count = record { tx = area tx count; rx = area rx count; held = false }

-- 1 to 8 pages each, from multiples of 4,096
unfoldable pub are_areas : ℕ → ℕ → ℕ → Bool
are_areas tx rx count = nat_le 1 count && nat_le count 8 && (tx % 4096 == 0) && (rx % 4096 == 0)

abbrev pub ends_in_space : PageRun → Bool
ends_in_space run = nat_le (run.first + run.count) (2 ^ 27)

-- the run is such an area, and ends within input addresses of 39 bits
abbrev pub IsArea : ℕ → ℕ → PageRun → Type 0
IsArea address count run = (run ≡ area address count) × (ends_in_space run ≡ true)

-- both end within input addresses of 39 bits, and they share no page
unfoldable pub is_pair : Pair → Bool
is_pair pair = ends_in_space pair.tx && ends_in_space pair.rx && are_apart pair.tx pair.rx

-- the two areas are a pair's
abbrev pub names_pair : ℕ → ℕ → ℕ → Bool
names_pair tx rx count = are_areas tx rx count && is_pair (named_pair tx rx count)

-- the pair is that of the two areas
abbrev pub IsNamedPair : ℕ → ℕ → ℕ → Pair → Type 0
IsNamedPair tx rx count pair = (pair ≡ named_pair tx rx count) × (names_pair tx rx count ≡ true)

-- ---- the tests of the calls, in order

-- of FFA_RXTX_MAP all but the last, which asks whether the pages may be buffers
abbrev pub pair_tests : List Mailbox → ℕ → ℕ → ℕ → ℕ → List Test
pair_tests boxes p tx rx count =
    (not (has_pair boxes p) otherwise Denied)
    ∷ (names_pair tx rx count otherwise InvalidParameters)
    ∷ []

-- they pass, and the pair is that which is named
abbrev pub PassesWith : List Mailbox → ℕ → ℕ → ℕ → ℕ → Pair → Type 0
PassesWith boxes p tx rx count pair =
    NoneRefuses (pair_tests boxes p tx rx count) × (pair ≡ named_pair tx rx count)

-- of FFA_RXTX_UNMAP
abbrev pub unmap_tests : List Mailbox → ℕ → List Test
unmap_tests boxes p = (has_pair boxes p otherwise InvalidParameters) ∷ []

-- of FFA_RX_RELEASE
abbrev pub release_tests : List Mailbox → ℕ → List Test
release_tests boxes p = (holds_rx boxes p otherwise Denied) ∷ []

-- of a call that fills RX
abbrev pub fill_tests : List Mailbox → ℕ → List Test
fill_tests boxes p =
    (has_pair boxes p otherwise InvalidParameters)
    ∷ (not (holds_rx boxes p) otherwise Busy)
    ∷ []
