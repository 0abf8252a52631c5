-- `encode_main` meets its contract.
use mathlib.Core.Path.{sym, ◌∙◌, ap}
use native.Mathlib.Omega.{arith}
use lib.ListN.{length}
use Rattle.encode_main.specs.TableLaws.{table_tiled, runs_count, runs_front, end_small, re_length, im_length, runs_state, frame_laid}
use Rattle.encode_main.proofs.encode_main.Goals as goal

pub encode_runs-made-requires : goal.encode_runs-made-requires
encode_runs-made-requires c =
    let s = c in
    let p = s.args.p in
    let front = runs_front p s.requires.0 in
    (s.requires.0.few, ap length front ∙ sym (runs_count p s.requires.0), rw front (table_tiled p.table s.requires.0.accepted), s.requires.1, s.requires.2, s.requires.3)

pub overflow_sub-end : goal.overflow_sub-end
overflow_sub-end c =
    let encode-runs = c in
    let s = encode-runs in
    let tl = table_tiled s.args.p.table s.requires.0.accepted in
    let made = rw (runs_front s.args.p s.requires.0) at encode-runs.encode_runs-made.ensures in
    let small = end_small s.args.p.table s.args.m s.args.bytes.now s.args.start tl made s.requires.2 s.requires.3 in
    let lr = re_length s.args.p.table s.args.m s.args.bytes.now s.args.start tl made s.requires.2 s.requires.3 in
    let li = im_length s.args.p.table s.args.m s.args.bytes.now s.args.start tl made s.requires.2 s.requires.3 in
    small

pub offset_bounds-re-end : goal.offset_bounds-re-end
offset_bounds-re-end c =
    let encode-runs = c in
    let s = encode-runs in
    let tl = table_tiled s.args.p.table s.requires.0.accepted in
    let made = rw (runs_front s.args.p s.requires.0) at encode-runs.encode_runs-made.ensures in
    let small = end_small s.args.p.table s.args.m s.args.bytes.now s.args.start tl made s.requires.2 s.requires.3 in
    let lr = re_length s.args.p.table s.args.m s.args.bytes.now s.args.start tl made s.requires.2 s.requires.3 in
    let li = im_length s.args.p.table s.args.m s.args.bytes.now s.args.start tl made s.requires.2 s.requires.3 in
    omega (arith, small, lr, li, s.requires.2, s.requires.3)

pub slice_bounds-put_unused-count : goal.slice_bounds-put_unused-count
slice_bounds-put_unused-count c =
    let encode-runs = c in
    let s = encode-runs in
    let tl = table_tiled s.args.p.table s.requires.0.accepted in
    let made = rw (runs_front s.args.p s.requires.0) at encode-runs.encode_runs-made.ensures in
    let small = end_small s.args.p.table s.args.m s.args.bytes.now s.args.start tl made s.requires.2 s.requires.3 in
    let lr = re_length s.args.p.table s.args.m s.args.bytes.now s.args.start tl made s.requires.2 s.requires.3 in
    let li = im_length s.args.p.table s.args.m s.args.bytes.now s.args.start tl made s.requires.2 s.requires.3 in
    omega (arith, small, lr, li, s.requires.2, s.requires.3)

pub slice_bounds-put_unused-start : goal.slice_bounds-put_unused-start
slice_bounds-put_unused-start c =
    let encode-runs = c in
    let s = encode-runs in
    let tl = table_tiled s.args.p.table s.requires.0.accepted in
    let made = rw (runs_front s.args.p s.requires.0) at encode-runs.encode_runs-made.ensures in
    let small = end_small s.args.p.table s.args.m s.args.bytes.now s.args.start tl made s.requires.2 s.requires.3 in
    let lr = re_length s.args.p.table s.args.m s.args.bytes.now s.args.start tl made s.requires.2 s.requires.3 in
    let li = im_length s.args.p.table s.args.m s.args.bytes.now s.args.start tl made s.requires.2 s.requires.3 in
    omega (arith, small, lr, li, s.requires.2, s.requires.3)

pub offset_bounds-im-end : goal.offset_bounds-im-end
offset_bounds-im-end c =
    let encode-runs = c in
    let s = encode-runs in
    let tl = table_tiled s.args.p.table s.requires.0.accepted in
    let made = rw (runs_front s.args.p s.requires.0) at encode-runs.encode_runs-made.ensures in
    let small = end_small s.args.p.table s.args.m s.args.bytes.now s.args.start tl made s.requires.2 s.requires.3 in
    let lr = re_length s.args.p.table s.args.m s.args.bytes.now s.args.start tl made s.requires.2 s.requires.3 in
    let li = im_length s.args.p.table s.args.m s.args.bytes.now s.args.start tl made s.requires.2 s.requires.3 in
    omega (arith, small, lr, li, s.requires.2, s.requires.3)

pub slice_bounds-put_unused-count-2 : goal.slice_bounds-put_unused-count-2
slice_bounds-put_unused-count-2 c =
    let encode-runs = c in
    let s = encode-runs in
    let tl = table_tiled s.args.p.table s.requires.0.accepted in
    let made = rw (runs_front s.args.p s.requires.0) at encode-runs.encode_runs-made.ensures in
    let small = end_small s.args.p.table s.args.m s.args.bytes.now s.args.start tl made s.requires.2 s.requires.3 in
    let lr = re_length s.args.p.table s.args.m s.args.bytes.now s.args.start tl made s.requires.2 s.requires.3 in
    let li = im_length s.args.p.table s.args.m s.args.bytes.now s.args.start tl made s.requires.2 s.requires.3 in
    omega (arith, small, lr, li, s.requires.2, s.requires.3)

pub slice_bounds-put_unused-start-2 : goal.slice_bounds-put_unused-start-2
slice_bounds-put_unused-start-2 c =
    let encode-runs = c in
    let s = encode-runs in
    let tl = table_tiled s.args.p.table s.requires.0.accepted in
    let made = rw (runs_front s.args.p s.requires.0) at encode-runs.encode_runs-made.ensures in
    let small = end_small s.args.p.table s.args.m s.args.bytes.now s.args.start tl made s.requires.2 s.requires.3 in
    let lr = re_length s.args.p.table s.args.m s.args.bytes.now s.args.start tl made s.requires.2 s.requires.3 in
    let li = im_length s.args.p.table s.args.m s.args.bytes.now s.args.start tl made s.requires.2 s.requires.3 in
    omega (arith, small, lr, li, s.requires.2, s.requires.3)

pub returns : goal.returns
returns c =
    let put-unused = c in
    let encode-runs = put-unused in
    let s = encode-runs in
    let tl = table_tiled s.args.p.table s.requires.0.accepted in
    let made = rw (runs_front s.args.p s.requires.0) at encode-runs.encode_runs-made.ensures in
    let small = end_small s.args.p.table s.args.m s.args.bytes.now s.args.start tl made s.requires.2 s.requires.3 in
    let lr = re_length s.args.p.table s.args.m s.args.bytes.now s.args.start tl made s.requires.2 s.requires.3 in
    let li = im_length s.args.p.table s.args.m s.args.bytes.now s.args.start tl made s.requires.2 s.requires.3 in
    record {
      state = runs_state s.args.p.table s.args.m s.args.bytes.now s.args.start tl made s.requires.2 s.requires.3;
      frame = frame_laid s.args.p.table s.args.m s.args.bytes.now s.args.start tl made s.requires.2 s.requires.3 put-unused.put_unused.ensures.0 put-unused.put_unused.ensures.1;
    }
