use Rattle.std.proofs.lemmas.List.Filters.{dedup_is}
use Rattle.lto_task.proofs.Rising.{same_names, sorted_rise}
use Rattle.importer.proofs.names.sort_names.Goals as goal

pub returns : goal.returns
returns c =
    let is = dedup_is _ _ _ c.dedup.ensures.filtered in
    record {
      rise = rw is (sorted_rise _ c.sort_unstable.ensures.sorted);
      same = rw is (same_names _ _ c.sort_unstable.ensures.permutation);
    }
