-- What the report of an index is.
use Rattle.std.specs.Prelude.{◌≡◌, ◌<◌, ℕ, Bool, List, [], ◌∷◌, ◌++◌, map, flat_map, length, slice_index_or}
use Rattle.combined_index.specs.Combined.{Combined}
use Rattle.thin_link.specs.Listed.{IsInOrder, Listed, all_listed, all_prevailing}
use Rattle.thin_link.specs.Lines.{definition_line, import_line, module_line, text_of}

-- the lines of module k, of this file, which imports these functions: its definitions, and what it imports
pub record AreLines (c : Combined) (live : List Bool) (k : ℕ) (file imports : List ℕ) (lines : List (List ℕ)) : Type 0 where
  pub definitions : List Listed
  pub defined : IsInOrder (all_listed c.symbols k (slice_index_or c.modules k [])) definitions
  pub imported : List Listed
  pub brought : IsInOrder (all_prevailing c imports) imported
  pub lines_are : lines ≡ module_line k file ∷ (map (definition_line live) definitions ++ map import_line imported)

-- the lines of each module, one module behind another
pub record IsReport (c : Combined) (live : List Bool) (imports files : List (List ℕ)) (text : List ℕ) : Type 0 where
  pub lines : List (List (List ℕ))
  pub modules : length lines ≡ length c.modules
  pub parts : (k : ℕ) → k < length c.modules → AreLines c live k (slice_index_or files k []) (slice_index_or imports k []) (slice_index_or lines k [])
  pub text_is : text ≡ text_of (flat_map (λ part. part) lines)
