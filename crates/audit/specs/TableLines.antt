-- The lines of the entries of tables, by their words.
use Rattle.std.specs.Prelude.{ℕ, ◌++◌, List, codes}
use Rattle.std.specs.Fmt.{decimal}
use Rattle.std.specs.Option.{option_map_or}
use Rattle.stage2.specs.Level.{number_of}
use Rattle.stage2.specs.Reading.{TableEntry, access_by}
use Rattle.stage2.specs.declared.table_page.Level.{Level}
use Rattle.stage2.specs.declared.table_page.Level.TheVariants.{First, Second, Third}
use Rattle.digits.specs.Digits.{hex, address_text}

-- the line of a block or a page that has this word
unfoldable pub leaf_line : ℕ → ℕ → ℕ → List ℕ
leaf_line level first word =
    codes "L" ++ decimal level ++ codes " " ++ address_text first ++ codes " " ++ hex 16 word
    ++ codes "\n"

-- the line of a table
unfoldable pub table_line : ℕ → ℕ → List ℕ
table_line level first =
    codes "L" ++ decimal level ++ codes " " ++ address_text first ++ codes " " ++ codes "table"
    ++ codes "\n"

-- the line of an entry of a root or of a level 2 table: a block or a table
abbrev pub upper_line : TableEntry → List ℕ
upper_line e =
    option_map_or (λ a. leaf_line (number_of e.level) e.first e.word) (access_by e)
    (table_line (number_of e.level) e.first)

-- the line of an entry at a level; a level 3 table has pages alone
abbrev pub line_at : Level → TableEntry → List ℕ
line_at First e = upper_line e
line_at Second e = upper_line e
line_at Third e = leaf_line 3 e.first e.word

-- the line of an entry, by its word
unfoldable pub line_of : TableEntry → List ℕ
line_of e = line_at e.level e
