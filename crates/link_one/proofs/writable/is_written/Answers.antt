use Rattle.std.proofs.Common.{◌≡◌, All, ap, arith, length, subst}
use Rattle.ir_tree.specs.Names.{AllBytes}
use Rattle.link_one.proofs.writable.is_written.Goals as goal

pub returns : goal.returns
returns c =
    let refs : length c.as_slice-2.result.now ≡ length c.args.piece.now.refs = ap length c.as_slice-2.ensures in
    record {
      name = subst AllBytes c.as_slice.ensures c.all_bytes.ensures;
      refs = subst (All AllBytes) c.as_slice-2.ensures c.all_names.ensures.bytes;
      count = omega (arith, refs, c.all_names.ensures.count);
      bytes = omega (arith, c.len-bytes.ensures);
    }
