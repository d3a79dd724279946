-- The end of a text that is brought to a place before it.
use Rattle.std.proofs.Common.{◌≡◌, ℕ, ◌+◌, ◌-◌, ◌≤◌, List, [], ◌++◌, take, drop, length, sym, ap, ap₂, ◌∙◌, append-nil, append_assoc, arith, length-append, length-drop, take-add}
use Rattle.std.specs.List.{copy_within}
use Rattle.std.proofs.lemmas.List.{take_all, drop_all, drop-drop, drop-take, length-take-le, drop_at, take_at}

module _ {A : Type 0} (items : List A) (s e k : ℕ) (le : s ≤ e) (inside : e ≤ length items) (rest : k ≡ length items - e) where
  mid : List A
  mid = take (e - s) (drop s items)

  mid-length : length mid ≡ e - s
  unfolding mid
  mid-length = length-take-le (e - s) (drop s items) (omega (arith, length-drop s items, le, inside))

  -- the lines moved back by the length of the header
  moved : copy_within items s e (s + k) ≡ take (s + k) items ++ mid
  unfolding mid
  moved =
      let past : drop (s + k + (e - s)) items ≡ [] = drop_all (s + k + (e - s)) items (omega (arith, le, inside, rest)) in
      ap (λ xs. take (s + k) items ++ take (e - s) (drop s items) ++ xs) past ∙ append-nil _

  front-length : length (take (s + k) items) ≡ s + k
  front-length = length-take-le (s + k) items (omega (arith, le, inside, rest))

  front : take s (take (s + k) items ++ mid) ≡ take s items
  front =
      let first : take (s + k) items ≡ take s items ++ take k (drop s items) = take-add s k items in
      let size = length-take-le s items (omega (arith, le, inside)) in
      ap (λ xs. take s (xs ++ mid)) first ∙ ap (take s) (append_assoc (take s items) (take k (drop s items)) mid)
      ∙ take_at (take s items) (take k (drop s items) ++ mid) s size

  back : drop k (drop s (take (s + k) items ++ mid)) ≡ mid
  back = drop-drop k s (take (s + k) items ++ mid) ∙ drop_at (take (s + k) items) mid (s + k) front-length

  mid-is : mid ≡ drop s (take e items)
  unfolding mid
  mid-is =
      let sum : s + (e - s) ≡ e = omega (arith, le) in
      sym (drop-take s (e - s) items) ∙ ap (λ n. drop s (take n items)) sum

  pub brought : (ys d w p : List A) (n : ℕ) → ys ≡ copy_within items s e (s + k) → d ≡ ys → w ≡ drop e items → p ≡ drop k (drop s d) → n ≡ length items → take n (take s d ++ (w ++ p) ++ drop (length (take s d ++ (w ++ p))) ys) ≡ take s items ++ (drop e items ++ drop s (take e items))
  brought ys d w p n copied same is behind all =
      let now : d ≡ take (s + k) items ++ mid = same ∙ copied ∙ moved in
      let tail : p ≡ mid = behind ∙ ap (λ xs. drop k (drop s xs)) now ∙ back in
      let whole : take s d ++ (w ++ p) ≡ take s items ++ (drop e items ++ mid) = ap₂ (λ xs ys. xs ++ ys) (ap (take s) now ∙ front) (ap₂ (λ xs ys. xs ++ ys) is tail) in
      let a = length-append (take s items) (drop e items ++ mid) in
      let b = length-append (drop e items) mid in
      let c = length-take-le s items (omega (arith, le, inside)) in
      let f = length-drop e items in
      let g = length-append (take (s + k) items) mid in
      let h = front-length in
      let total : length (take s items ++ (drop e items ++ mid)) ≡ length ys = omega (arith, a, b, c, f, g, h, ap length (sym same ∙ now), le, inside, rest) in
      let size : length ys ≡ length items = omega (arith, ap length (sym same ∙ now), g, h, mid-length, le, inside, rest) in
      let none : drop (length (take s items ++ (drop e items ++ mid))) ys ≡ [] = drop_all _ ys (omega (arith, total)) in
      ap (λ xs. take n (xs ++ drop (length xs) ys)) whole
      ∙ ap (λ xs. take n (take s items ++ (drop e items ++ mid) ++ xs)) none
      ∙ ap (take n) (append-nil _) ∙ take_all n _ (omega (arith, total, size, all))
      ∙ ap (λ xs. take s items ++ (drop e items ++ xs)) mid-is

-- a header that is written behind its lines and brought before them
pub headed : {A : Type 0} (old lines head text new : List A) (start end : ℕ) → start ≡ length old → text ≡ old ++ lines ++ head → end ≡ length (old ++ lines) → new ≡ take start text ++ (drop end text ++ drop start (take end text)) → new ≡ old ++ (head ++ lines)
headed old lines head text new start end at is to so =
    let all = old ++ lines ++ head in
    let apart : all ≡ old ++ (lines ++ head) = append_assoc old lines head in
    let first : take start all ≡ old = ap (λ xs. take start xs) apart ∙ take_at old (lines ++ head) start (sym at) in
    let last : drop end all ≡ head = drop_at (old ++ lines) head end (sym to) in
    let mid : drop start (take end all) ≡ lines = ap (λ xs. drop start xs) (take_at (old ++ lines) head end (sym to)) ∙ drop_at old lines start (sym at) in
    so ∙ ap (λ xs. take start xs ++ (drop end xs ++ drop start (take end xs))) is
    ∙ ap (λ xs. xs ++ (drop end all ++ drop start (take end all))) first
    ∙ ap₂ (λ xs ys. old ++ (xs ++ ys)) last mid
