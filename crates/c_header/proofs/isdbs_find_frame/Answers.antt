use mathlib.Core.Path.{◌≡◌, refl, sym, ◌∙◌, ap}
use Rattle.refusal.specs.Rows.{number_of}
use Rattle.header_sync.specs.Fits.{short_at}
use Rattle.header_sync.specs.Search.{found_at}
use Rattle.header_find.specs.declared.Found.{Found}
use Rattle.header_find.specs.Headers.{header_at, frame_at}
use Rattle.c_header.specs.Calls.{kind_of, sum_of, found_header}
use Rattle.c_header.specs.CallLaws.{told, untold, header_most, doubted_most}
use Rattle.c_header.proofs.isdbs_find_frame.Goals as goal

pub put_header-requires : goal.put_header-requires
put_header-requires c =
    let at = c in
    let x = at.args in
    let q = found_at x.re.now x.im.now x.from in
    let h = found_header x.re.now x.im.now x.from in
    let t = told (short_at x.re.now x.im.now x.from) at.in-Ok.found (frame_at x.re.now x.im.now q) (sym at.in-Ok.is ∙ at.find_frame.ensures) in
    let m = doubted_most (header_at x.re.now x.im.now q) (header_most x.re.now x.im.now q) in
    (rw t.1 m.0, rw t.1 m.1)

pub returns-in-Err : goal.returns-in-Err
returns-in-Err c =
    let at = c in
    let x = at.args in
    let q = found_at x.re.now x.im.now x.from in
    let h = found_header x.re.now x.im.now x.from in
    let t = untold (short_at x.re.now x.im.now x.from) at.in-Err.row (frame_at x.re.now x.im.now q) (sym at.in-Err.is ∙ at.find_frame.ensures) in
    let n : c.number.result ≡ 6 = c.number.ensures ∙ ap number_of t.1 in
    record { answers = rw t.0 n; place = rw n refl; kind = rw n refl; turn = rw n refl; real = rw n refl; imaginary = rw n refl }

pub returns-in-Ok : goal.returns-in-Ok
returns-in-Ok c =
    let at = c in
    let x = at.args in
    let q = found_at x.re.now x.im.now x.from in
    let h = found_header x.re.now x.im.now x.from in
    let t = told (short_at x.re.now x.im.now x.from) at.in-Ok.found (frame_at x.re.now x.im.now q) (sym at.in-Ok.is ∙ at.find_frame.ensures) in
    let p = c.put_header.ensures in record { answers = rw t.0 refl; place = ap (λ (g : Found). g.place) t.1; kind = p.kind ∙ ap (λ (g : Found). kind_of g.header.first) t.1; turn = p.turn ∙ ap (λ (g : Found). g.header.turn) t.1; real = p.real ∙ ap (λ (g : Found). sum_of g.header.re) t.1; imaginary = p.imaginary ∙ ap (λ (g : Found). sum_of g.header.im) t.1 }
