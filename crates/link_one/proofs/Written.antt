-- The text of the linked module is that of a link of its files, and of no other.
use Rattle.std.proofs.Common.{◌≡◌, ℕ, List, map, subst}
use Rattle.std.specs.List.{AllZip}
use Rattle.ir_tree.specs.declared.module.Module.{Module}
use Rattle.ir_print.specs.Modules.{module_text}
use Rattle.combined_index.specs.Suffixes.{suffix_of}
use Rattle.link_one.specs.Accepted.{Accepts}
use Rattle.link_one.specs.Laws.{LinkedIsOne}
use Rattle.link_one.specs.Linked.{IsLinked}
use Rattle.link_one.specs.LinkedLaws.{LinkedRefines}
use Rattle.link_one.specs.Linking.{IsLinkOf, IsOnlyLinkOf}
use Rattle.link_one.proofs.Texts.{all_verified}

module _ (refines : LinkedRefines) (exports : List (List ℕ)) (import_limit inline_limit : ℕ) (suffixes : List (List ℕ)) (ms : List Module) (l : Module) (linked : IsLinked exports import_limit inline_limit suffixes ms l) where
  pub is_link : (files : List (List ℕ)) → AllZip Accepts files ms → suffixes ≡ map suffix_of files → (text : List ℕ) → text ≡ module_text l → IsLinkOf exports import_limit inline_limit files text
  is_link files accepted same text is =
      let of_files : IsLinked exports import_limit inline_limit (map suffix_of files) ms l = subst (λ (ss : List (List ℕ)). IsLinked exports import_limit inline_limit ss ms l) same linked in
      record {
        ms = ms;
        accepted = accepted;
        l = l;
        linked = of_files;
        is = is;
        refines = refines exports import_limit inline_limit (map suffix_of files) ms l (all_verified files ms accepted) of_files;
      }

  pub is_only_link : LinkedIsOne → (files : List (List ℕ)) → AllZip Accepts files ms → suffixes ≡ map suffix_of files → (text : List ℕ) → text ≡ module_text l → IsOnlyLinkOf exports import_limit inline_limit files text
  is_only_link one files accepted same text is other h = one exports import_limit inline_limit files other text h (is_link files accepted same text is)
