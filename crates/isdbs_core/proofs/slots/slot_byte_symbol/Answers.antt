-- `slot_byte_symbol` meets its contract.
use Rattle.std.specs.Prelude.{Option, None, Result, Ok, Err}
use Rattle.std.proofs.lemmas.Result.{err_from_is_err_and}
use Rattle.refusal.specs.declared.Refusal.{Refusal}
use Rattle.refusal.specs.Rows.{answered}
use Rattle.isdbs_plan.specs.PlanLaws.{runs_accepted, runs_refused, runs_are, runs_in, runs_units}
use Rattle.isdbs_plan.specs.RunsOf.{runs_of}
use Rattle.isdbs_core.specs.SymbolLaws.{byte_padded, byte_said_lem}
use Rattle.isdbs_core.specs.Symbols.{byte_in, slot_byte_symbol, slot_byte_said}
use Rattle.isdbs_core.specs.Answers.{byte_said}
use Rattle.isdbs_tables.specs.declared.Table.{Table}
use Prim.Native.Nat.{ℕ}
use Rattle.isdbs_tables.specs.Tables.{table_answer}
use Rattle.isdbs_plan.specs.declared.Run.{Run}
use mathlib.Core.List.{List}
use borrow.Author.Tests.{le-ltb}
use Rattle.isdbs_core.proofs.Bytes.{byte_none}
use mathlib.Core.Path.{◌≡◌, sym, ◌∙◌, ap}
use Rattle.isdbs_core.proofs.slots.slot_byte_symbol.Goals as goal

-- the second clause from the first
said_by : (t : Table) (slot byte : ℕ) (r : Result (Option ℕ) Refusal) → r ≡ slot_byte_symbol t slot byte → byte_said r ≡ slot_byte_said t slot byte
said_by t slot byte r e = ap byte_said e ∙ byte_said_lem t slot byte

pub returns-in_err-all : goal.returns-in_err-all
returns-in_err-all c =
    let a = c.args in
    let p = err_from_is_err_and c.from_residual.result c.from_residual.ensures.1 in
    let e = runs_refused a.t _ (sym c.in_err-all.was ∙ c.runs.ensures) in
    let is : c.from_residual.result ≡ slot_byte_symbol a.t a.slot a.byte = rw (p.1, p.2, ← e) in
    record { is = is; said = said_by a.t a.slot a.byte c.from_residual.result is }

pub returns-then-byte-ge-SLOT_BYTES : goal.returns-then-byte-ge-SLOT_BYTES
returns-then-byte-ge-SLOT_BYTES c =
    let a = c.args in
    let ok = runs_accepted a.t _ (sym c.in_ok-all.was ∙ c.runs.ensures) in
    let is : Ok None ≡ slot_byte_symbol a.t a.slot a.byte =
    rw (ok, byte_none (runs_of a.t) a.slot a.byte (le-ltb a.byte 203 c.if-byte-ge-SLOT_BYTES.true)) in
    record { is = is; said = said_by a.t a.slot a.byte (Ok None) is }

pub byte_in-requires : goal.byte_in-requires
byte_in-requires c =
    let e = sym c.in_ok-all.was ∙ c.runs.ensures in
    (runs_in c.args.t _ e, runs_units c.args.t _ e, c.if-byte-ge-SLOT_BYTES.false)

pub returns : goal.returns
returns c =
    let a = c.args in
    let e = sym c.in_ok-all.was ∙ c.runs.ensures in
    let b : c.byte_in.result ≡ byte_in (runs_of a.t) a.slot a.byte =
    c.byte_in.ensures ∙ ap (λ (l : List Run). byte_in l a.slot a.byte) (runs_are a.t _ e) ∙ byte_padded 4 (runs_of a.t) a.slot a.byte in
    let is : Ok c.byte_in.result ≡ slot_byte_symbol a.t a.slot a.byte = rw (runs_accepted a.t _ e, b) in
    record { is = is; said = said_by a.t a.slot a.byte (Ok c.byte_in.result) is }
