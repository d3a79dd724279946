-- The rule of a call: its tests in order, and what it changes and is answered where they pass.
use Rattle.std.specs.Prelude.{ℕ, ◌+◌, Bool, true, false, ◌&&◌, ◌==◌, nat_le, List, [], ◌∷◌, ◌++◌, Option, Some, None, if◌then◌else◌}
use Rattle.std.specs.Option.{option_map_or}
use Rattle.base.specs.declared.status.Status.{Status}
use Rattle.base.specs.declared.status.Status.TheVariants.{NoMemory}
use Rattle.base.specs.Pages.{PageRun, covers}
use Rattle.base.specs.Access.{Access, View}
use Rattle.base.specs.Refusals.{Test, ◌otherwise◌, first_refusal}
use Rattle.base.specs.Need.{need, grow, reaching}
use Rattle.base.specs.State.{State, sees}
use Rattle.manifest.specs.Valid.{quota_of}
use Rattle.wire.specs.Replies.{ReplyWords, error}

-- Whose view changes, of which pages, and to what; and whether these pages are cleared. What a call clears is always what it edits, while no partition reaches it: a send and a relinquish clear the pages after they are taken away, a reclaim before they are given.
pub record Edit : Type 0 where
  pub who : ℕ
  pub runs : List PageRun
  pub to : View
  pub clears : Bool

-- a partition reaches nothing of the pages any more
abbrev pub taken_from : ℕ → List PageRun → Bool → Edit
taken_from p runs clears = record { who = p; runs = runs; to = None; clears = clears }

-- a partition reaches the pages with this access
abbrev pub given_to : ℕ → List PageRun → Access → Bool → Edit
given_to p runs access clears =
    record { who = p; runs = runs; to = Some access; clears = clears }

-- The reply has the bytes of RX with it.
pub record Rule : Type 0 where
  pub tests : List Test
  pub edit : Option Edit
  pub next : State
  pub reply : ReplyWords

-- these views with the edit made
abbrev pub with_edit : Option Edit → (ℕ → ℕ → View) → ℕ → ℕ → View
with_edit None view p n = view p n
with_edit (Some edit) view p n = if (p == edit.who) && covers edit.runs n then edit.to else view p n

-- the pages that are cleared with it
abbrev pub clears_page : Option Edit → ℕ → Bool
clears_page None n = false
clears_page (Some edit) n = edit.clears && covers edit.runs n

-- The tables of the edit fit the partition's quota: those that its views need, and those that its new views need where the old ones need none.
unfoldable pub fits : State → Option Edit → Bool
fits s None = true
fits s (Some edit) =
    let view = sees s edit.who in
    let after = reaching edit.runs edit.to view in
    nat_le (need view + grow view after) (quota_of s.manifest edit.who)

-- the tests of a call, and that its edit fits as the last of them
abbrev pub all_tests : State → Rule → List Test
all_tests s rule = rule.tests ++ (fits s rule.edit otherwise NoMemory) ∷ []

-- every call is refused with this status
abbrev pub refused : Status → State → Rule
refused status s =
    record { tests = (false otherwise status) ∷ []; edit = None; next = s; reply = error status }

-- the status of the first test that fails, else the rule's reply
abbrev pub reply_of : State → Rule → ReplyWords
reply_of s rule = option_map_or error (first_refusal (all_tests s rule)) rule.reply

-- the state after it; a refused call changes nothing
abbrev pub next_of : State → Rule → State
next_of s rule = option_map_or (λ status. s) (first_refusal (all_tests s rule)) rule.next
