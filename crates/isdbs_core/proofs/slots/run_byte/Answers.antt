-- `run_byte` meets its contract.
use Prim.Native.Nat.{ℕ, ◌+◌, ◌*◌}
use Rattle.isdbs_core.specs.SymbolLaws.{marked_most, byte_inside}
use Rattle.isdbs_core.specs.Symbols.{symbol_of_bit}
use borrow.Author.Tests.{lt-ltb}
use mathlib.Core.Path.{sym, ◌∙◌, ap}
use native.Mathlib.Omega.{arith}
use Rattle.isdbs_core.proofs.slots.run_byte.Goals as goal

pub is_marked-requires : goal.is_marked-requires
is_marked-requires c = tt

pub marked_before-requires : goal.marked_before-requires
marked_before-requires c = tt

-- the byte's bit has a position
pub overflow_mul-marked_before : goal.overflow_mul-marked_before
overflow_mul-marked_before c =
    let st = c in
    let m = marked_most st.args.r.combination st.args.k in
    let fits = st.requires.1 in
    omega (arith, fits.slots, st.requires.0, st.requires.3)

pub overflow_add-marked_before : goal.overflow_add-marked_before
overflow_add-marked_before c =
    let st = c in
    let m = marked_most st.args.r.combination st.args.k in
    let fits = st.requires.1 in
    omega (arith, fits.slots, st.requires.0, st.requires.3)

pub symbol_of_bit-requires : goal.symbol_of_bit-requires
symbol_of_bit-requires c =
    let st = c in
    let m = marked_most st.args.r.combination st.args.k in
    let fits = st.requires.1 in
    omega (arith, fits.slots, st.requires.0, st.requires.3)

-- and its symbol lies in the run
pub overflow_add-m : goal.overflow_add-m
overflow_add-m c =
    let st = c in
    let fits = st.requires.1 in
    let b = byte_inside st.args.r st.args.k st.args.byte st.requires.2 st.requires.0
    (sym c.is_marked.ensures ∙ c.if-is_marked.true) st.requires.3 in
    let e = c.symbol_of_bit.ensures ∙ ap (λ (x : ℕ). symbol_of_bit st.args.r.combination (x * 1624 + 8 * st.args.byte)) c.marked_before.ensures in
    omega (arith, fits.ends)

pub main_place-requires : goal.main_place-requires
main_place-requires c =
    let st = c in
    let fits = st.requires.1 in
    let b = byte_inside st.args.r st.args.k st.args.byte st.requires.2 st.requires.0
    (sym c.is_marked.ensures ∙ c.if-is_marked.true) st.requires.3 in
    let e = c.symbol_of_bit.ensures ∙ ap (λ (x : ℕ). symbol_of_bit st.args.r.combination (x * 1624 + 8 * st.args.byte)) c.marked_before.ensures in
    omega (arith, fits.ends)

pub returns-then-is_marked : goal.returns-then-is_marked
returns-then-is_marked c =
    rw (
      sym c.is_marked.ensures ∙ c.if-is_marked.true,
      lt-ltb _ 203 c.requires.3,
      ← c.marked_before.ensures,
      ← c.symbol_of_bit.ensures,
      c.main_place.ensures,
    )

pub returns : goal.returns
returns c =
    rw (sym c.is_marked.ensures ∙ c.if-is_marked.false)
