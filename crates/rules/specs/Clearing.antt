-- Who may order that pages are cleared (FF-A 1.1, "Flags usage", "Descriptor to relinquish a memory region", "FFA_MEM_RECLAIM").
use Rattle.std.specs.Prelude.{ℕ, Bool, true, false, ◌&&◌, ◌||◌, ◌==◌, not, List, length, Some}
use Rattle.std.specs.Option.{option_map_or}
use Rattle.base.specs.declared.transaction.Kind.{Kind}
use Rattle.base.specs.declared.transaction.Kind.TheVariants.{Share, Lend, Donate}
use Rattle.base.specs.Access.{View, is_rw}
use Rattle.base.specs.Ledger.{retrieved}
use Rattle.base.specs.Transactions.{Receiver, Live}

-- a page may be written by who has this view of it
abbrev pub is_writable : View → Bool
is_writable view = option_map_or (λ a. is_rw a.rights) view false

-- the sender of a lend or a donation, where its home is read-write
unfoldable pub may_clear_sent : Bool → View → Bool
may_clear_sent clears home = not clears || is_writable home

abbrev pub is_lent_to_one : Kind → List Receiver → Bool
is_lent_to_one Share receivers = false
is_lent_to_one Lend receivers = length receivers == 1
is_lent_to_one Donate receivers = false

-- the only receiver of a lend, where it has retrieved it read-write
unfoldable pub may_clear_lent : Bool → ℕ → Live → Bool
may_clear_lent clears p t =
    not clears
    || (is_lent_to_one t.kind t.receivers && is_writable (retrieved t.receivers p))

abbrev pub is_share : Kind → Bool
is_share Share = true
is_share Lend = false
is_share Donate = false

-- the sender that takes back a lend or a donation, where its home is read-write
unfoldable pub may_clear_returned : Bool → Live → Bool
may_clear_returned clears t =
    not clears || (not (is_share t.kind) && is_writable (Some t.home))
