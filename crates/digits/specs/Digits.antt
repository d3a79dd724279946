-- Numbers as texts show them.
use Rattle.std.specs.Prelude.{ℕ, ◌-◌, ◌*◌, false, List, ◌++◌, length, replicate, codes}
use Rattle.std.specs.Fmt.{digits, decimal}
use Rattle.base.specs.Pages.{PageRun}

-- the digits of a number in base 16, in lower case, with zeros in front up to a width
unfoldable pub hex : ℕ → ℕ → List ℕ
hex width n = replicate (width - length (digits 16 false n)) 48 ++ digits 16 false n

-- the address of a page
abbrev pub address_text : ℕ → List ℕ
address_text page = hex 10 (4096 * page)

-- the address of the first of some pages, and how many they are
abbrev pub extent_text : PageRun → List ℕ
extent_text run = address_text run.first ++ codes " " ++ decimal run.count
