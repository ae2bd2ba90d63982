-- How many nodes a shape has as it is written.
use Rattle.std.specs.Prelude.{ℕ, ◌+◌}
use Rattle.ir_parse_parts.specs.Shapes.{Written, int, pointer, array, structure, named, WrittenParts, no_parts, part}

abbrev mutual
  pub nodes : Written → ℕ
  nodes (int w) = 0
  nodes pointer = 0
  nodes (array n of) = nodes of + 1
  nodes (structure packed parts) = all_nodes parts + 1
  nodes (named name) = 0

  pub all_nodes : WrittenParts → ℕ
  all_nodes no_parts = 0
  all_nodes (part s more) = nodes s + 1 + all_nodes more
