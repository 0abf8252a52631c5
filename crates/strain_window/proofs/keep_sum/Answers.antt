-- `keep_sum` meets its contract.
use mathlib.Core.Path.{refl, sym, ◌∙◌, ap}
use Rattle.strain_window.specs.declared.WindowState.{WindowState}
use Rattle.strain_window.proofs.After.{written}
use Rattle.strain_window.proofs.keep_sum.Goals as goal

pub bounds-kept-place : goal.bounds-kept-place
bounds-kept-place c =
    let at = c in
    let start = at in
    let place = at.place_of-place.ensures in
    let fill = ap (λ (w : WindowState). w.fill) at.moved_on-after.ensures in
    let done = written start.args.clear start.requires place fill in
    done.place_in

pub slice_bounds-total_of-end : goal.slice_bounds-total_of-end
slice_bounds-total_of-end c =
    let at = c in
    let start = at in
    let place = at.place_of-place.ensures in
    let fill = ap (λ (w : WindowState). w.fill) at.moved_on-after.ensures in
    let done = written start.args.clear start.requires place fill in
    done.front_in

pub slice_bounds-total_of-end-2 : goal.slice_bounds-total_of-end-2
slice_bounds-total_of-end-2 c =
    let at = c in
    let start = at in
    let place = at.place_of-place.ensures in
    let fill = ap (λ (w : WindowState). w.fill) at.moved_on-after.ensures in
    let done = written start.args.clear start.requires place fill in
    sym done.front_length

pub total_of-total-requires : goal.total_of-total-requires
total_of-total-requires c =
    let at = c in
    let start = at in
    let place = at.place_of-place.ensures in
    let fill = ap (λ (w : WindowState). w.fill) at.moved_on-after.ensures in
    let done = written start.args.clear start.requires place fill in
    (done.front_most, done.front_below)

pub slice_bounds-greatest_of-end : goal.slice_bounds-greatest_of-end
slice_bounds-greatest_of-end c =
    let at = c in
    let start = at in
    let place = at.place_of-place.ensures in
    let fill = ap (λ (w : WindowState). w.fill) at.moved_on-after.ensures in
    let done = written start.args.clear start.requires place fill in
    done.front_in

pub slice_bounds-greatest_of-end-2 : goal.slice_bounds-greatest_of-end-2
slice_bounds-greatest_of-end-2 c =
    let at = c in
    let start = at in
    let place = at.place_of-place.ensures in
    let fill = ap (λ (w : WindowState). w.fill) at.moved_on-after.ensures in
    let done = written start.args.clear start.requires place fill in
    sym done.front_length

pub returns : goal.returns
returns c =
    let at = c in
    let start = at in
    let place = at.place_of-place.ensures in
    let fill = ap (λ (w : WindowState). w.fill) at.moved_on-after.ensures in
    let done = written start.args.clear start.requires place fill in
    let front = done.front_is in
    record {
      state_is = at.moved_on-after.ensures;
      kept_is = rw place refl;
      total_is = c.total_of-total.ensures ∙ rw front (rw place refl);
      greatest_is = c.greatest_of-greatest.ensures ∙ rw front (rw place refl);
    }
