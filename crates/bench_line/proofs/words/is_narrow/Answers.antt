-- `is_narrow` meets its contract.
use Rattle.std.proofs.Common.{◌-◌, ◌≤◌, length, drop, arith, length-drop, take_all, rules, le-ltb, lt-ltb}
use Rattle.bench_line.proofs.words.is_narrow.Goals as goal

pub returns-then-n-lt5 : goal.returns-then-n-lt5
returns-then-n-lt5 c = rw (lt-ltb _ _ c.if-n-lt5.true)

pub returns : goal.returns
returns c =
    let s = c.args.name.now in
    let h : 5 ≤ length s = search rules in
    let e : length (drop (length s - 5) s) ≤ length s - (length s - 5) = rw (length-drop (length s - 5) s) (omega arith) in
    rw (le-ltb _ _ h, c.same.ensures, take_all (length s - (length s - 5)) (drop (length s - 5) s) e)
