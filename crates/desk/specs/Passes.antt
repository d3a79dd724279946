-- What the passes of a desk know of its history.
use Rattle.std.specs.Prelude.{◌≡◌, ◌≢◌, ℕ, ◌+◌, ◌<◌, List, [], ◌∷◌, ◌++◌}
use mathlib.Core.Option.{Option, none, some}
use lib.ListN.{get_elem?}
use Rattle.atomic_table.specs.Table.{Me, Step}
use Rattle.atomic_table.specs.Seated.{TableId}
use Rattle.desk.specs.declared.entry.Entry.{Entry}
use Rattle.desk.specs.Receipts.{NoneOf}
use Rattle.desk.specs.declared.pass.Known.{Known}
use Rattle.desk.specs.declared.pass.View.{View}
use Rattle.desk.specs.declared.pass.View.TheVariants.{Nothing, Keeper, Seated, Meeting}

abbrev pub known : List Entry → List ℕ → ℕ → Known
known history home seats = record { history = history; home = home; seats = seats }

-- with one more seat
abbrev pub with_seat : Known → Known
with_seat k = known k.history k.home (k.seats + 1)

-- with one more call
abbrev pub with_call : Known → Entry → Known
with_call k e = known (k.history ++ e ∷ []) k.home k.seats

-- with one more seat that came home
abbrev pub with_home : Known → ℕ → Known
with_home k n = known k.history (k.home ++ n ∷ []) k.seats

abbrev pub nothing : View
nothing = Nothing

-- the keeper at the start
abbrev pub newcomer : View
newcomer = Keeper (known [] [] 0)

-- the history begins with what the seat has seen, and goes on without it
pub record IsUpTo (n : ℕ) (seen history : List Entry) : Type 0 where
  pub rest : List Entry
  pub goes_on : history ≡ seen ++ rest
  pub without_it : NoneOf n rest

-- the number is none of these
abbrev pub NotAmong : ℕ → List ℕ → Type 0
NotAmong n [] = Unit {0}
NotAmong n (m ∷ ms) = (m ≢ n) × NotAmong n ms

-- no two of the numbers are the same
abbrev pub AreDistinct : List ℕ → Type 0
AreDistinct [] = Unit {0}
AreDistinct (n ∷ ns) = NotAmong n ns × AreDistinct ns

-- a seat that has not come home knows each of its calls
pub record IsOut (k : Known) (n : ℕ) (seen : List Entry) : Type 0 where
  pub made : n < k.seats
  pub knows : IsUpTo n seen k.history
  pub away : NotAmong n k.home

-- what the rule says of one pass: there is one keeper, and one pass for each seat that has not come home
abbrev pub Fits : Known → ℕ → (ℕ → ℕ) → ℕ → View → Type 0
Fits k keeper place by Nothing = Unit {0}
Fits k keeper place by (Keeper mine) = (by ≡ keeper) × (mine ≡ k)
Fits k keeper place by (Seated n seen) = (by ≡ place n) × IsOut k n seen
Fits k keeper place by (Meeting mine n seen) = (by ≡ keeper) × (mine ≡ k) × (by ≡ place n) × IsOut k n seen

pub record Kept (views : List View) : Type 0 where
  pub known : Known
  pub keeper : ℕ
  pub place : ℕ → ℕ
  pub fits : (by : ℕ) (v : View) → get_elem? views by ≡ some v → Fits known keeper place by v

-- ---- what one pass knows

abbrev pub known_of : View → Known
known_of Nothing = known [] [] 0
known_of (Keeper k) = k
known_of (Seated n seen) = known [] [] 0
known_of (Meeting k n seen) = k

abbrev pub number_of : View → ℕ
number_of Nothing = 0
number_of (Keeper k) = 0
number_of (Seated n seen) = n
number_of (Meeting k n seen) = n

abbrev pub seen_of : View → List Entry
seen_of Nothing = []
seen_of (Keeper k) = []
seen_of (Seated n seen) = seen
seen_of (Meeting k n seen) = seen

-- the keeper's pass
abbrev pub IsKeeper : Me Entry View → Type 0
IsKeeper me = me ≡ (Keeper (known_of me.0), [])

-- the pass of the seat n
abbrev pub IsSeat : ℕ → Me Entry View → Type 0
IsSeat n me = me ≡ (Seated n (seen_of me.0), [])

-- ---- the moves

-- the keeper, once it has made one more seat
abbrev pub issuing : View → View
issuing Nothing = Nothing
issuing (Keeper k) = Keeper (with_seat k)
issuing (Seated n seen) = Seated n seen
issuing (Meeting k n seen) = Meeting k n seen

-- that seat
abbrev pub issued : View → View
issued Nothing = Nothing
issued (Keeper k) = Seated k.seats k.history
issued (Seated n seen) = Nothing
issued (Meeting k n seen) = Nothing

-- the keeper with what a seat knows
abbrev pub met_with : Known → View → View
met_with k Nothing = Keeper k
met_with k (Keeper other) = Keeper k
met_with k (Seated n seen) = Meeting k n seen
met_with k (Meeting other n seen) = Keeper k

abbrev pub met : View → View → View
met Nothing w = Nothing
met (Keeper k) w = met_with k w
met (Seated n seen) w = Nothing
met (Meeting k n seen) w = Meeting k n seen

abbrev pub keeper_of : View → View
keeper_of Nothing = Nothing
keeper_of (Keeper k) = Keeper k
keeper_of (Seated n seen) = Seated n seen
keeper_of (Meeting k n seen) = Keeper k

abbrev pub seat_of : View → View
seat_of Nothing = Nothing
seat_of (Keeper k) = Nothing
seat_of (Seated n seen) = Nothing
seat_of (Meeting k n seen) = Seated n seen

abbrev pub added_to : Known → ℕ → Option Entry → View
added_to k n none = Nothing
added_to k n (some e) = Meeting (with_call k e) n (k.history ++ e ∷ [])

-- the keeper and a seat that have added a call
abbrev pub added : View → Option Entry → View
added Nothing e = Nothing
added (Keeper k) e = Nothing
added (Seated n seen) e = Nothing
added (Meeting k n seen) e = added_to k n e

-- the keeper once the seat that it met came home
abbrev pub come_home : View → View
come_home Nothing = Nothing
come_home (Keeper k) = Nothing
come_home (Seated n seen) = Nothing
come_home (Meeting k n seen) = Keeper (with_home k n)

-- what a meeting tells
abbrev pub Tells : View → Type 0
Tells Nothing = Unit {0}
Tells (Keeper k) = Unit {0}
Tells (Seated n seen) = Unit {0}
Tells (Meeting k n seen) = IsOut k n seen

abbrev pub Adds : Step Entry → Me Entry View → ℕ → Me Entry View → Type 0
Adds s me found after = (after ≡ (added me.0 s.said, me.1)) × Tells me.0

abbrev pub ComesHome : Step Entry → Me Entry View → ℕ → Me Entry View → Type 0
ComesHome s me found after = (after ≡ (come_home me.0, me.1)) × Tells me.0
