-- The handles of memory transactions (FF-A 1.1, "Memory region handle").
use Rattle.std.specs.Prelude.{ℕ, ◌+◌, ◌*◌, ◌/◌, ◌%◌, ◌^◌}

-- the sender's identifier, and how many of its sends were accepted, this one with them
abbrev pub handle_of : ℕ → ℕ → ℕ
handle_of sender count = sender * 2 ^ 32 + count

abbrev pub low_half : ℕ → ℕ
low_half handle = handle % 2 ^ 32

abbrev pub high_half : ℕ → ℕ
high_half handle = handle / 2 ^ 32

abbrev pub of_halves : ℕ → ℕ → ℕ
of_halves low high = low + 2 ^ 32 * high
