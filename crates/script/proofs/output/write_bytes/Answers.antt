use Rattle.std.proofs.Common.{◌≡◌, ℕ, ◌-◌, List, take, drop, length, arith, rules, sym, take-add, append-nil, length-drop, take-append-drop}
use Rattle.std.proofs.KnownBytes.{Appends-kept, Appends-trans}
use Rattle.std.proofs.lemmas.List.{take_all}
use Rattle.script.proofs.output.write_bytes.Goals as goal

-- a slice up to the end
up_to_end : (text : List ℕ) (n : ℕ) → take (length text - n) (drop n text) ≡ drop n text
up_to_end text n = let len = length-drop n text in take_all (length text - n) (drop n text) (omega arith)

pub loop-written-preserved : goal.loop-written-preserved
loop-written-preserved g c =
    let inv = c.loop-written.invariant in
    let all = c.args.bytes.now in
    let written = c.loop-written.written in
    let more = rw (up_to_end all written) at c.in-Ok.ensures.bytes in
    let bound = rw (up_to_end all written) at c.in-Ok.ensures.bound in
    record {
      within = omega (arith, bound, length-drop written all);
      front = rw (take-add written c.in-Ok.count all) (Appends-trans _ _ _ _ _ inv.front more);
      unfailed = search rules;
    }

pub returns-in-Ok-eq0-clause-beginning : goal.returns-in-Ok-eq0-clause-beginning
returns-in-Ok-eq0-clause-beginning g c =
    let inv = c.loop-written.invariant in
    let all = c.args.bytes.now in
    let written = c.loop-written.written in
    let zero : c.in-Ok-eq0.field-0 ≡ 0 = search rules in
    let none = rw zero at c.in-Ok-eq0.ensures.bytes in
    let whole = rw (append-nil (take written all)) at (Appends-trans _ _ _ _ _ inv.front none) in
    (take written all, drop written all, sym (take-append-drop written all), whole)

pub returns-in-Err-clause-beginning : goal.returns-in-Err-clause-beginning
returns-in-Err-clause-beginning g c =
    let all = c.args.bytes.now in
    let written = c.loop-written.written in
    (take written all, drop written all, sym (take-append-drop written all), Appends-kept _ _ _ _ c.loop-written.invariant.front c.in-Err.ensures.bytes)
