-- What a link makes of files: preserved behaviour, and one text.
use Rattle.std.specs.Prelude.{◌≡◌, ℕ, IsTrue, List, map}
use Rattle.std.specs.List.{AllZip}
use Rattle.ir_tree.specs.declared.module.Module.{Module}
use Rattle.ir_meaning.specs.Refine.{RefinesUnder}
use Rattle.ir_print.specs.Modules.{module_text}
use Rattle.ir_meaning.specs.Programs.{program_of}
use Rattle.merge_meaning.specs.Lives.{is_export}
use Rattle.merge_meaning.specs.Merged.{merged}
use Rattle.combined_index.specs.Suffixes.{suffix_of}
use Rattle.link_one.specs.Accepted.{Accepts}
use Rattle.link_one.specs.Linked.{IsLinked}
use Rattle.link_one.specs.Naming.{linked_names}

-- Preserved behaviour: the text is that of the linked module of what the files are read as, and each run of the linked program from
-- an exported function, for all arguments, inputs, free choices and numbers of steps, is matched by a run of the merged modules.
pub record IsLinkOf (exports : List (List ℕ)) (import_limit inline_limit : ℕ) (files : List (List ℕ)) (text : List ℕ) : Type 0 where
  pub ms : List Module
  pub accepted : AllZip Accepts files ms
  pub l : Module
  pub linked : IsLinked exports import_limit inline_limit (map suffix_of files) ms l
  pub is : text ≡ module_text l
  pub refines : RefinesUnder (linked_names exports import_limit inline_limit (map suffix_of files) ms l linked) (program_of l.globals) (merged ms) (λ s. IsTrue (is_export exports s))

-- Reproducible bytes: every link of the files has this text.
abbrev pub IsOnlyLinkOf : List (List ℕ) → ℕ → ℕ → List (List ℕ) → List ℕ → Type 0
IsOnlyLinkOf exports import_limit inline_limit files text = (other : List ℕ) → IsLinkOf exports import_limit inline_limit files other → other ≡ text
