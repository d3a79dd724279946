-- Lines of entries whose digits are filled in, and those whose page is exchanged.
use Rattle.std.proofs.Common.{◌≡◌, ℕ, suc, take, drop, ◌+◌, ◌/◌, ◌%◌, ◌^◌, ◌<◌, ◌≤◌, false, List, [], ◌∷◌, ◌++◌, codes, length, sym, ap, ◌∙◌, append-nil, append_assoc, length-append, arith}
use Rattle.std.specs.Fmt.{decimal, digit_glyph}
use Rattle.std.proofs.lemmas.Fmt.{decimal_digit}
use Rattle.digits.specs.Digits.{hex, address_text}
use Rattle.audit.specs.TableLines.{leaf_line, table_line}
use Rattle.digits.proofs.HexDigits.{hex_fits, last_digits}
use Rattle.digits.proofs.Parts.{take_past, drop_past, mid_at, put_at}
use Rattle.digits.proofs.Addresses.{last_length, page_length, address_digits}
use borrow.Rule.Slice.PartMut.{put_mid, mid_of}

-- ---- lines that are filled in

-- a space, and an identifier whose digits are filled in
pub filled-id : (id : ℕ) (digits : List ℕ) → digits ≡ hex 4 id → put_mid 1 4 (codes " 0000") digits ≡ codes " " ++ hex 4 id
filled-id id digits is = ap (λ d. codes " " ++ d) (append-nil digits ∙ is)

-- a line with zeros in place of its digits
abbrev pub blank_leaf : ℕ → List ℕ
blank_leaf level = 76 ∷ (48 + level) ∷ codes " 0000000000 0000000000000000\n"

abbrev pub blank_table : ℕ → List ℕ
blank_table level = 76 ∷ (48 + level) ∷ codes " 0000000000 table\n"

spelled-table : (head address : List ℕ) → head ++ (address ++ codes " table\n") ≡ head ++ address ++ codes " " ++ codes "table" ++ codes "\n"
spelled-table head address =
    sym (append_assoc (head ++ address ++ codes " ") (codes "table") (codes "\n") ∙ append_assoc (head ++ address) (codes " ") (codes "table" ++ codes "\n") ∙ append_assoc head address (codes " " ++ (codes "table" ++ codes "\n")))

pub filled-table : (level first : ℕ) (page : List ℕ) → level ≤ 3 → first < 2 ^ 27 → page ≡ hex 7 first → put_mid 3 7 (blank_table level) page ≡ table_line level first
unfolding table_line
filled-table level first page most small is =
    let head : List ℕ = 76 ∷ (48 + level) ∷ 32 ∷ [] in
    let digit : decimal level ≡ (48 + level) ∷ [] = decimal_digit level (omega arith) in
    ap (λ a. head ++ (a ++ codes "000 table\n")) is
    ∙ ap (λ t. head ++ t) (sym (append_assoc (hex 7 first) (codes "000") (codes " table\n")))
    ∙ ap (λ a. head ++ (a ++ codes " table\n")) (address_digits first small)
    ∙ spelled-table head (address_text first)
    ∙ ap (λ d. codes "L" ++ d ++ codes " " ++ address_text first ++ codes " " ++ codes "table" ++ codes "\n") (sym digit)

spelled-leaf : (head address digits : List ℕ) → (head ++ (address ++ codes " ")) ++ (digits ++ codes "\n") ≡ head ++ address ++ codes " " ++ digits ++ codes "\n"
spelled-leaf head address digits =
    ap (λ t. t ++ (digits ++ codes "\n")) (sym (append_assoc head address (codes " ")))
    ∙ sym (append_assoc (head ++ address ++ codes " ") digits (codes "\n"))

pub filled-leaf : (level first word : ℕ) (page digits : List ℕ) → level ≤ 3 → first < 2 ^ 27 → page ≡ hex 7 first → digits ≡ hex (length (mid_of 14 16 (put_mid 3 7 (blank_leaf level) page))) word → put_mid 14 16 (put_mid 3 7 (blank_leaf level) page) digits ≡ leaf_line level first word
unfolding leaf_line
filled-leaf level first word page digits most small is so =
    let head : List ℕ = 76 ∷ (48 + level) ∷ 32 ∷ [] in
    let tail : List ℕ = codes "000 0000000000000000\n" in
    let seven : length page ≡ 7 = ap (λ (a : List ℕ). length a) is ∙ page_length first small in
    let front : take 11 (page ++ tail) ≡ page ++ codes "000 " = take_past page tail 4 11 (omega (arith, seven)) in
    let rest : drop 11 (page ++ tail) ≡ codes "0000000000000000\n" = drop_past page tail 4 11 (omega (arith, seven)) in
    let long : length (take 16 (drop 11 (page ++ tail))) ≡ 16 = ap (λ (xs : List ℕ). length (take 16 xs)) rest in
    let digit : decimal level ≡ (48 + level) ∷ [] = decimal_digit level (omega arith) in
    ap (λ (xs : List ℕ). (head ++ xs) ++ (digits ++ drop 16 (drop 11 (page ++ tail)))) front
    ∙ ap (λ (xs : List ℕ). (head ++ (page ++ codes "000 ")) ++ (digits ++ drop 16 xs)) rest
    ∙ ap (λ (ds : List ℕ). (head ++ (page ++ codes "000 ")) ++ (ds ++ codes "\n")) (so ∙ ap (λ k. hex k word) long)
    ∙ ap (λ (a : List ℕ). (head ++ (a ++ codes "000 ")) ++ (hex 16 word ++ codes "\n")) is
    ∙ ap (λ (a : List ℕ). (head ++ a) ++ (hex 16 word ++ codes "\n")) (sym (append_assoc (hex 7 first) (codes "000") (codes " ")))
    ∙ ap (λ (a : List ℕ). (head ++ (a ++ codes " ")) ++ (hex 16 word ++ codes "\n")) (address_digits first small)
    ∙ spelled-leaf head (address_text first) (hex 16 word)
    ∙ ap (λ (d : List ℕ). codes "L" ++ d ++ codes " " ++ address_text first ++ codes " " ++ hex 16 word ++ codes "\n") (sym digit)

-- ---- a line whose page is exchanged

-- the last three digits apart
three-apart : (w n : ℕ) → last_digits (suc (suc (suc w))) n ≡ last_digits w (n / 4096) ++ last_digits 3 (n % 4096)
three-apart w n =
    let front : n / 16 / 16 / 16 ≡ n / 4096 = omega arith in
    let first : n / 16 / 16 % 16 ≡ n % 4096 / 16 / 16 % 16 = omega arith in
    let second : n / 16 % 16 ≡ n % 4096 / 16 % 16 = omega arith in
    let third : n % 16 ≡ n % 4096 % 16 = omega arith in
    let one = λ (d : ℕ). digit_glyph false d ∷ [] in
    let xs = last_digits w (n / 4096) in
    ap (λ (k : ℕ). last_digits w k ++ one (n / 16 / 16 % 16) ++ one (n / 16 % 16) ++ one (n % 16)) front
    ∙ ap (λ (k : ℕ). xs ++ one k ++ one (n / 16 % 16) ++ one (n % 16)) first
    ∙ ap (λ (k : ℕ). xs ++ one (n % 4096 / 16 / 16 % 16) ++ one k ++ one (n % 16)) second
    ∙ ap (λ (k : ℕ). xs ++ one (n % 4096 / 16 / 16 % 16) ++ one (n % 4096 / 16 % 16) ++ one k) third
    ∙ append_assoc (xs ++ one (n % 4096 / 16 / 16 % 16)) (one (n % 4096 / 16 % 16)) (one (n % 4096 % 16))
    ∙ append_assoc xs (one (n % 4096 / 16 / 16 % 16)) (one (n % 4096 / 16 % 16) ++ one (n % 4096 % 16))

regroup : (head high low zeros blank top page fields end : List ℕ) → head ++ ((high ++ low) ++ zeros) ++ blank ++ ((top ++ page) ++ fields) ++ end ≡ (head ++ high) ++ (low ++ (((zeros ++ blank) ++ top) ++ (page ++ (fields ++ end))))
regroup head high low zeros blank top page fields end = simp append_assoc

-- what stands in front of a line's page, between its page and the page in its word, and behind that
abbrev line_front : ℕ → List ℕ
line_front first = (76 ∷ 51 ∷ 32 ∷ []) ++ last_digits 4 (first / 4096)

abbrev line_middle : ℕ → List ℕ
line_middle word = codes "000 " ++ last_digits 10 (word / 4096 / 4096)

abbrev line_end : ℕ → List ℕ
line_end word = last_digits 3 (word % 4096) ++ codes "\n"

line-parts : (first word : ℕ) → first < 2 ^ 27 → word < 2 ^ 64 → leaf_line 3 first word ≡ line_front first ++ (last_digits 3 (first % 4096) ++ (line_middle word ++ (last_digits 3 (word / 4096 % 4096) ++ line_end word)))
unfolding leaf_line
line-parts first word small fits =
    let head : List ℕ = 76 ∷ 51 ∷ 32 ∷ [] in
    let digit : decimal 3 ≡ 51 ∷ [] = decimal_digit 3 (omega arith) in
    let high = last_digits 4 (first / 4096) in
    let low = last_digits 3 (first % 4096) in
    let top = last_digits 10 (word / 4096 / 4096) in
    let page = last_digits 3 (word / 4096 % 4096) in
    let fields = last_digits 3 (word % 4096) in
    let address : address_text first ≡ (high ++ low) ++ codes "000" = sym (address_digits first small) ∙ ap (λ t. t ++ codes "000") (hex_fits 7 first (omega arith) (omega arith) (omega arith) ∙ three-apart 4 first) in
    let digits : hex 16 word ≡ (top ++ page) ++ fields = hex_fits 16 word (omega arith) fits fits ∙ three-apart 13 word ∙ ap (λ t. t ++ fields) (three-apart 10 (word / 4096)) in
    ap (λ (d : List ℕ). codes "L" ++ d ++ codes " " ++ address_text first ++ codes " " ++ hex 16 word ++ codes "\n") digit
    ∙ ap (λ (a : List ℕ). head ++ a ++ codes " " ++ hex 16 word ++ codes "\n") address
    ∙ ap (λ (w : List ℕ). head ++ ((high ++ low) ++ codes "000") ++ codes " " ++ w ++ codes "\n") digits
    ∙ regroup head high low (codes "000") (codes " ") top page fields (codes "\n")

front-length : (first : ℕ) → length (line_front first) ≡ 7
front-length first = ap (λ n. 3 + n) (last_length 4 (first / 4096))

middle-length : (word : ℕ) → length (line_middle word) ≡ 14
middle-length word = ap (λ n. 4 + n) (last_length 10 (word / 4096 / 4096))

pub exchanged : (page first last word : ℕ) (line low high : List ℕ) → page < 2 ^ 27 → first < 2 ^ 27 → last < 2 ^ 64 → word < 2 ^ 64 → page / 4096 ≡ first / 512 / 8 → word / 2 ^ 24 ≡ last / 2 ^ 24 → word % 4096 ≡ last % 4096 → line ≡ leaf_line 3 page last → low ≡ hex (length (mid_of 7 3 line)) (first % 4096) → high ≡ hex (length (mid_of 24 3 (put_mid 7 3 line low))) (word / 4096 % 4096) → put_mid 24 3 (put_mid 7 3 line low) high ≡ leaf_line 3 first word
exchanged page first last word line low high inside small before fits near top fields is new_low new_high =
    let front = line_front page in
    let old_low = last_digits 3 (page % 4096) in
    let old_high = last_digits 3 (last / 4096 % 4096) in
    let whole : line ≡ front ++ (old_low ++ (line_middle last ++ (old_high ++ line_end last))) = is ∙ line-parts page last inside before in
    let seven : length front ≡ 7 = front-length page in
    let three : length old_low ≡ 3 = last_length 3 (page % 4096) in
    let lows : low ≡ last_digits 3 (first % 4096) =
    new_low ∙ ap (λ (k : ℕ). hex k (first % 4096)) (ap (λ (xs : List ℕ). length (mid_of 7 3 xs)) whole ∙ ap (λ (xs : List ℕ). length xs) (mid_at front old_low (line_middle last ++ (old_high ++ line_end last)) 7 3 seven three) ∙ three)
    ∙ hex_fits 3 (first % 4096) (omega arith) (omega arith) (omega arith) in
    let once : put_mid 7 3 line low ≡ (front ++ (low ++ line_middle last)) ++ (old_high ++ line_end last) =
    ap (λ (xs : List ℕ). put_mid 7 3 xs low) whole ∙ put_at front old_low (line_middle last ++ (old_high ++ line_end last)) low 7 3 seven three
    ∙ sym (append_assoc front (low ++ line_middle last) (old_high ++ line_end last) ∙ ap (λ t. front ++ t) (append_assoc low (line_middle last) (old_high ++ line_end last))) in
    let long : length (front ++ (low ++ line_middle last)) ≡ 24 = omega (arith, length-append front (low ++ line_middle last), length-append low (line_middle last), seven, ap (λ (xs : List ℕ). length xs) lows, last_length 3 (first % 4096), middle-length last) in
    let also : length old_high ≡ 3 = last_length 3 (last / 4096 % 4096) in
    let highs : high ≡ last_digits 3 (word / 4096 % 4096) =
    new_high ∙ ap (λ (k : ℕ). hex k (word / 4096 % 4096)) (ap (λ (xs : List ℕ). length (mid_of 24 3 xs)) once ∙ ap (λ (xs : List ℕ). length xs) (mid_at (front ++ (low ++ line_middle last)) old_high (line_end last) 24 3 long also) ∙ also)
    ∙ hex_fits 3 (word / 4096 % 4096) (omega arith) (omega arith) (omega arith) in
    let twice : put_mid 24 3 (put_mid 7 3 line low) high ≡ (front ++ (low ++ line_middle last)) ++ (high ++ line_end last) =
    ap (λ (xs : List ℕ). put_mid 24 3 xs high) once ∙ put_at (front ++ (low ++ line_middle last)) old_high (line_end last) high 24 3 long also in
    let place : page / 4096 ≡ first / 4096 = omega (arith, near) in
    let tops : last / 4096 / 4096 ≡ word / 4096 / 4096 = omega (arith, top) in
    twice
    ∙ append_assoc front (low ++ line_middle last) (high ++ line_end last) ∙ ap (λ t. front ++ t) (append_assoc low (line_middle last) (high ++ line_end last))
    ∙ ap (λ (n : ℕ). ((76 ∷ 51 ∷ 32 ∷ []) ++ last_digits 4 n) ++ (low ++ (line_middle last ++ (high ++ line_end last)))) place
    ∙ ap (λ (xs : List ℕ). line_front first ++ (xs ++ (line_middle last ++ (high ++ line_end last)))) lows
    ∙ ap (λ (n : ℕ). line_front first ++ (last_digits 3 (first % 4096) ++ ((codes "000 " ++ last_digits 10 n) ++ (high ++ line_end last)))) tops
    ∙ ap (λ (xs : List ℕ). line_front first ++ (last_digits 3 (first % 4096) ++ (line_middle word ++ (xs ++ line_end last)))) highs
    ∙ ap (λ (n : ℕ). line_front first ++ (last_digits 3 (first % 4096) ++ (line_middle word ++ (last_digits 3 (word / 4096 % 4096) ++ (last_digits 3 n ++ codes "\n"))))) (sym fields)
    ∙ sym (line-parts first word small fits)
