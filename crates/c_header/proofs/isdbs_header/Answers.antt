use mathlib.Core.Path.{◌≡◌, refl, sym, ◌∙◌, ap}
use Rattle.refusal.specs.Rows.{number_of}
use Rattle.header_sync.specs.Fits.{short_at}
use Rattle.header_find.specs.declared.Header.{Header}
use Rattle.header_find.specs.Headers.{header_at}
use Rattle.c_header.specs.Calls.{kind_of, sum_of}
use Rattle.c_header.specs.CallLaws.{told, untold, header_most}
use Rattle.c_header.proofs.isdbs_header.Goals as goal

pub put_header-requires : goal.put_header-requires
put_header-requires c =
    let at = c in
    let x = at.args in
    let h = header_at x.re.now x.im.now x.at in
    let t = told (short_at x.re.now x.im.now x.at) at.in-Ok.h h (sym at.in-Ok.is ∙ at.header_at.ensures) in
    let m = header_most x.re.now x.im.now x.at in
    (rw t.1 m.0, rw t.1 m.1)

pub returns-in-Err : goal.returns-in-Err
returns-in-Err c =
    let at = c in
    let x = at.args in
    let h = header_at x.re.now x.im.now x.at in
    let t = untold (short_at x.re.now x.im.now x.at) at.in-Err.row h (sym at.in-Err.is ∙ at.header_at.ensures) in
    let n : c.number.result ≡ 6 = c.number.ensures ∙ ap number_of t.1 in
    record { answers = rw t.0 n; kind = rw n refl; turn = rw n refl; real = rw n refl; imaginary = rw n refl }

pub returns-in-Ok : goal.returns-in-Ok
returns-in-Ok c =
    let at = c in
    let x = at.args in
    let h = header_at x.re.now x.im.now x.at in
    let t = told (short_at x.re.now x.im.now x.at) at.in-Ok.h h (sym at.in-Ok.is ∙ at.header_at.ensures) in
    let p = c.put_header.ensures in record { answers = rw t.0 refl; kind = p.kind ∙ ap (λ (g : Header). kind_of g.first) t.1; turn = p.turn ∙ ap (λ (g : Header). g.turn) t.1; real = p.real ∙ ap (λ (g : Header). sum_of g.re) t.1; imaginary = p.imaginary ∙ ap (λ (g : Header). sum_of g.im) t.1 }
