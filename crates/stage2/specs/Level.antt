-- The levels of tables.
use Rattle.std.specs.Prelude.{ℕ}
use Rattle.stage2.specs.declared.table_page.Level.{Level}
use Rattle.stage2.specs.declared.table_page.Level.TheVariants.{First, Second, Third}

abbrev pub number_of : Level → ℕ
number_of First = 1
number_of Second = 2
number_of Third = 3
