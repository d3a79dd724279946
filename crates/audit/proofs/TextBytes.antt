-- The texts are UTF-8, whatever the numbers in them.
use Rattle.std.proofs.Common.{ℕ, ◌*◌, Some, None, Bool, true, false, cond, eqb, List, [], ◌∷◌, ◌++◌, codes, length, refl, sym, subst, inl, inr}
use Rattle.std.specs.List.{flat_map}
use Rattle.std.specs.Str.{IsUtf8, is_utf8, chars}
use Rattle.std.proofs.lemmas.Str.{IsUtf8-append, IsUtf8-from_is_utf8}
use Rattle.base.specs.Access.{Access, View, is_rw, is_normal}
use Rattle.base.specs.Manifest.{PartitionRow, ManifestRows, grant}
use Rattle.base.specs.Need.{need}
use Rattle.base.specs.Runs.{ValuedRun}
use Rattle.base.specs.Transactions.{Donation}
use Rattle.words.specs.Words.{leaf_word_of}
use Rattle.digits.proofs.Texts.{decimal_utf8, hex_utf8, extent_utf8}
use Rattle.stage2.specs.Listing.{Listed, entries}
use Rattle.audit.specs.Audit.{IsAuditText}
use Rattle.audit.specs.Runs.{OwnedRun, reached_runs, owned_runs}
use Rattle.audit.specs.Texts.{access_text, kind_text, access_end, check_text, check_line, maps_text, maps_header, maps_line, owners_text, owners_header, owners_line, tables_text, tables_header, entry_line, content_text}
use lib.Utf8.{encode}

-- ---- pieces

blank : IsUtf8 (codes " ")
unfolding is_utf8 chars encode
blank = IsUtf8-from_is_utf8 (codes " ") refl

line-end : IsUtf8 (codes "\n")
unfolding is_utf8 chars encode
line-end = IsUtf8-from_is_utf8 (codes "\n") refl

lines-text : {A : Type 0} (line : A → List ℕ) (xs : List A) → ((x : A) → IsUtf8 (line x)) → IsUtf8 (flat_map line xs)
unfolding is_utf8 chars encode
lines-text line [] each = IsUtf8-from_is_utf8 [] refl
lines-text line (x ∷ xs) each = IsUtf8-append (line x) (flat_map line xs) (each x) (lines-text line xs each)

access-text : (a : Access) → IsUtf8 (access_text a)
unfolding is_utf8 chars encode
access-text a = go (is_rw a.rights) a.exec
  where
    go : (rw exec : Bool) → IsUtf8 (cond rw (cond exec (codes "rwx") (codes "rw-")) (cond exec (codes "r-x") (codes "r--")))
    go true true = IsUtf8-from_is_utf8 (codes "rwx") refl
    go true false = IsUtf8-from_is_utf8 (codes "rw-") refl
    go false true = IsUtf8-from_is_utf8 (codes "r-x") refl
    go false false = IsUtf8-from_is_utf8 (codes "r--") refl

kind-text : (a : Access) → IsUtf8 (kind_text a)
unfolding is_utf8 chars encode
kind-text a = go (is_normal a.kind)
  where
    go : (normal : Bool) → IsUtf8 (cond normal (codes "normal") (codes "device"))
    go true = IsUtf8-from_is_utf8 (codes "normal") refl
    go false = IsUtf8-from_is_utf8 (codes "device") refl

-- texts one behind another
then : (xs ys : List ℕ) → IsUtf8 xs → IsUtf8 ys → IsUtf8 (xs ++ ys)
then xs ys a b = IsUtf8-append xs ys a b

access-end : (a : Access) → IsUtf8 (access_end a)
access-end a = then _ _ (then _ _ (then _ _ (then _ _ blank (access-text a)) blank) (kind-text a)) line-end

-- ---- what partitions need

check-line-text : (row : PartitionRow) (count : ℕ) → IsUtf8 (check_line row count)
unfolding is_utf8 chars encode
check-line-text row count =
    then _ _ (then _ _ (then _ _ (then _ _ (then _ _ (hex_utf8 4 row.id) (IsUtf8-from_is_utf8 (codes " need ") refl)) (decimal_utf8 count)) (IsUtf8-from_is_utf8 (codes " quota ") refl)) (decimal_utf8 row.quota)) line-end

pub check-utf8 : (m : ManifestRows) → IsUtf8 (check_text m)
check-utf8 m = lines-text (λ row. check_line row (need (grant m row.id))) m.partitions (λ row. check-line-text row (need (grant m row.id)))

-- ---- what a partition reaches

maps-line-text : (r : ValuedRun Access) → IsUtf8 (maps_line r)
maps-line-text r = then _ _ (extent_utf8 r.run) (access-end r.value)

maps-header-text : (p count : ℕ) → IsUtf8 (maps_header p count)
unfolding is_utf8 chars encode
maps-header-text p count = then _ _ (then _ _ (then _ _ (then _ _ (IsUtf8-from_is_utf8 (codes "maps ") refl) (hex_utf8 4 p)) blank) (decimal_utf8 count)) line-end

pub maps-utf8 : (p : ℕ) (view : ℕ → View) → IsUtf8 (maps_text p view)
unfolding maps_text
maps-utf8 p view = then _ _ (maps-header-text p (length (reached_runs view))) (lines-text maps_line (reached_runs view) maps-line-text)

-- ---- owners

owners-line-text : (r : OwnedRun) → IsUtf8 (owners_line r)
owners-line-text r = then _ _ (extent_utf8 r.run) (then _ _ (then _ _ blank (hex_utf8 4 r.value.owner)) (access-end r.value.home))

owners-header-text : (count : ℕ) → IsUtf8 (owners_header count)
unfolding is_utf8 chars encode
owners-header-text count = then _ _ (then _ _ (IsUtf8-from_is_utf8 (codes "owners ") refl) (decimal_utf8 count)) line-end

pub owners-utf8 : (m : ManifestRows) (ds : List Donation) → IsUtf8 (owners_text m ds)
unfolding owners_text
owners-utf8 m ds = then _ _ (owners-header-text (length (owned_runs m ds))) (lines-text owners_line (owned_runs m ds) owners-line-text)

-- ---- the tables of a partition

content-bytes : (level first : ℕ) (leaf : View) → IsUtf8 (content_text level first leaf)
unfolding is_utf8 chars encode
content-bytes level first None = IsUtf8-from_is_utf8 (codes "table") refl
content-bytes level first (Some a) = hex_utf8 16 (leaf_word_of (eqb level 2) first a)

entry-line-text : (e : Listed) → IsUtf8 (entry_line e)
unfolding is_utf8 chars encode
entry-line-text e =
    then _ _ (then _ _ (then _ _ (then _ _ (then _ _ (then _ _ (IsUtf8-from_is_utf8 (codes "L") refl) (decimal_utf8 e.level)) blank) (hex_utf8 10 (4096 * e.first))) blank) (content-bytes e.level e.first e.leaf)) line-end

tables-header-text : (p count : ℕ) → IsUtf8 (tables_header p count)
unfolding is_utf8 chars encode
tables-header-text p count = then _ _ (then _ _ (then _ _ (then _ _ (IsUtf8-from_is_utf8 (codes "tables ") refl) (hex_utf8 4 p)) blank) (decimal_utf8 count)) line-end

pub tables-utf8 : (p : ℕ) (view : ℕ → View) → IsUtf8 (tables_text p view)
unfolding tables_text
tables-utf8 p view = then _ _ (tables-header-text p (need view)) (lines-text entry_line (entries view) entry-line-text)

-- ---- an audit

pub audit-utf8 : (text : List ℕ) (fact : Type 0) → IsAuditText text fact → IsUtf8 text
unfolding is_utf8 chars encode
audit-utf8 text fact (inl equal) = subst IsUtf8 (sym equal.0) (IsUtf8-from_is_utf8 (codes "equal\n") refl)
audit-utf8 text fact (inr differs) = subst IsUtf8 (sym differs.0) (IsUtf8-from_is_utf8 (codes "differs\n") refl)
