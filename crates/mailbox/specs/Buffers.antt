-- A partition's buffers.
use Rattle.std.specs.Prelude.{ℕ, Bool, false, not, List, [], ◌∷◌, Option, is_some}
use Rattle.std.specs.Option.{option_map_or}
use Rattle.base.specs.declared.status.Status.TheVariants.{InvalidParameters, Busy}
use Rattle.base.specs.Buffers.{Pair, Mailbox, in_pair}
use Rattle.base.specs.Refusals.{Test, ◌otherwise◌}

-- the page lies in a buffer that is registered here
abbrev pub has_buffer_at : Mailbox → ℕ → Bool
has_buffer_at box n = option_map_or (λ pair. in_pair pair n) box.pair false

-- the tests of a call that fills RX, by the pair of its partition
abbrev pub pair_fill_tests : Option Pair → List Test
pair_fill_tests pair =
    (is_some pair otherwise InvalidParameters)
    ∷ (not (option_map_or (λ pair. pair.held) pair false) otherwise Busy)
    ∷ []
