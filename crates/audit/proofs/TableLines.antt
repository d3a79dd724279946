-- By its word an entry of canonical tables has the line that its access gives.
use Rattle.std.proofs.Common.{◌≡◌, ◌++◌, true, false, codes, Some, None, is_some, refl, sym, ap, ◌∙◌}
use Rattle.std.specs.Fmt.{decimal}
use Rattle.std.specs.Option.{option_map_or}
use Rattle.base.specs.Access.{Access, View}
use Rattle.stage2.specs.Level.{number_of}
use Rattle.stage2.specs.Reading.{TableEntry, access_by, shown, IsSound}
use Rattle.stage2.specs.declared.table_page.Level.{Level}
use Rattle.stage2.specs.declared.table_page.Level.TheVariants.{First, Second, Third}
use Rattle.digits.specs.Digits.{hex, address_text}
use Rattle.audit.specs.Texts.{entry_line}
use Rattle.audit.specs.TableLines.{leaf_line, table_line, upper_line, line_at, line_of}

leaf-shown : (e : TableEntry) (a : Access) → IsSound e → access_by e ≡ Some a → leaf_line (number_of e.level) e.first e.word ≡ entry_line (shown e)
unfolding leaf_line
leaf-shown e a sound is =
    ap (λ w. codes "L" ++ decimal (number_of e.level) ++ codes " " ++ address_text e.first ++ codes " " ++ hex 16 w ++ codes "\n") (sound.leaf a is)
    ∙ ap (λ (o : View). entry_line (record { level = number_of e.level; first = e.first; leaf = o })) (sym is)

upper-shown : (e : TableEntry) (view : View) → IsSound e → access_by e ≡ view → upper_line e ≡ entry_line (shown e)
unfolding table_line
upper-shown e None sound is =
    ap (λ (o : View). option_map_or (λ a. leaf_line (number_of e.level) e.first e.word) o (table_line (number_of e.level) e.first)) is
    ∙ ap (λ (o : View). entry_line (record { level = number_of e.level; first = e.first; leaf = o })) (sym is)
upper-shown e (Some a) sound is =
    ap (λ (o : View). option_map_or (λ a. leaf_line (number_of e.level) e.first e.word) o (table_line (number_of e.level) e.first)) is
    ∙ leaf-shown e a sound is

page-shown : (e : TableEntry) (view : View) → IsSound e → e.level ≡ Third → access_by e ≡ view → leaf_line 3 e.first e.word ≡ entry_line (shown e)
page-shown e None sound at is = let bad : false ≡ true = ap (λ (o : View). is_some o) (sym is) ∙ sound.page at in absurd (cc)
page-shown e (Some a) sound at is = ap (λ l. leaf_line (number_of l) e.first e.word) (sym at) ∙ leaf-shown e a sound is

pub line-shown : (e : TableEntry) → IsSound e → line_of e ≡ entry_line (shown e)
unfolding line_of
line-shown e sound = go e.level refl
  where
    go : (level : Level) → e.level ≡ level → line_at e.level e ≡ entry_line (shown e)
    go First at = ap (λ l. line_at l e) at ∙ upper-shown e (access_by e) sound refl
    go Second at = ap (λ l. line_at l e) at ∙ upper-shown e (access_by e) sound refl
    go Third at = ap (λ l. line_at l e) at ∙ page-shown e (access_by e) sound at refl
