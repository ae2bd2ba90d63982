use Rattle.std.specs.Cow.{cow_slice_items}
use Rattle.ir_parse_names.specs.declared.key.Key as code
use Rattle.ir_parse_names.specs.declared.key.Key.TheVariants.{Spelled, Written}
use Rattle.ir_parse_names.specs.Keys.{Key, spelled, written}

abbrev pub key : code.Key → Key
key (Spelled text) = spelled (cow_slice_items text)
key (Written n) = written n
