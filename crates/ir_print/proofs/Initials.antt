-- The flat form of an initialiser is printed as the tree is.
use Rattle.std.proofs.Common.{◌≡◌, Bool, true, false, List, [], ◌∷◌, ◌++◌, refl, sym, ap, ◌∙◌, append_assoc}
use Rattle.std.proofs.lemmas.List.{append-nil}
use Rattle.ir_lex.specs.Pieces.{Piece}
use Rattle.ir_tree.specs.Initials.{Initial, Initials, plain, zeros, bytes, elements, members, no_initials, initial, head_of, parts_of, all_parts, flat_of}
use Rattle.ir_tree.specs.declared.init_node.InitHead.{InitHead}
use Rattle.ir_tree.specs.declared.init_node.InitPart.{InitPart}
use Rattle.ir_tree.specs.declared.init_node.InitPart.TheVariants.{End}
use Rattle.ir_print.specs.declared.level.Level.{Level}
use Rattle.ir_print.specs.declared.level.Level.TheVariants.{Array}
use Rattle.ir_print.specs.Variables.{value, parts_in, opening, level_of, part_shape}
use Rattle.ir_print.specs.Initials.{beginning, opened_by, opens, parts}

mutual
  pub value_printed : (v : Initial) (open_ones : List Level) (rest : List InitPart) → beginning (head_of v) ++ parts (opened_by (head_of v) open_ones) (opens (head_of v)) (parts_of v rest) ≡ value v ++ parts open_ones false rest
  value_printed (plain x) open_ones rest = refl
  value_printed zeros open_ones rest = refl
  value_printed (bytes text) open_ones rest = refl
  value_printed (elements vs) open_ones rest =
      ap (λ (ps : List Piece). opening Array ++ ps) (parts_printed Array open_ones true vs rest)
      ∙ sym (append_assoc (opening Array) (parts_in Array true vs) (parts open_ones false rest))
  value_printed (members packed vs) open_ones rest =
      ap (λ (ps : List Piece). opening (level_of packed) ++ ps) (parts_printed (level_of packed) open_ones true vs rest)
      ∙ sym (append_assoc (opening (level_of packed)) (parts_in (level_of packed) true vs) (parts open_ones false rest))

  pub parts_printed : (l : Level) (open_ones : List Level) (first : Bool) (vs : Initials) (rest : List InitPart) → parts (l ∷ open_ones) first (all_parts vs (End ∷ rest)) ≡ parts_in l first vs ++ parts open_ones false rest
  parts_printed l open_ones first no_initials rest = refl
  parts_printed l open_ones first (initial f v vs) rest =
      append_assoc (part_shape l first f) (beginning (head_of v)) (parts (opened_by (head_of v) (l ∷ open_ones)) (opens (head_of v)) (parts_of v (all_parts vs (End ∷ rest))))
      ∙ ap (λ (ps : List Piece). part_shape l first f ++ ps)
      (value_printed v (l ∷ open_ones) (all_parts vs (End ∷ rest))
      ∙ ap (λ (ps : List Piece). value v ++ ps) (parts_printed l open_ones false vs rest)
      ∙ sym (append_assoc (value v) (parts_in l false vs) (parts open_ones false rest)))
      ∙ sym (append_assoc (part_shape l first f) (value v ++ parts_in l false vs) (parts open_ones false rest))

-- the whole value, with nothing open around it
pub whole_printed : (v : Initial) → beginning (head_of v) ++ parts (opened_by (head_of v) []) (opens (head_of v)) (parts_of v []) ≡ value v
whole_printed v = value_printed v [] [] ∙ append-nil (value v)

pub flat_printed : (v : Initial) (root : InitHead) (ps : List InitPart) (open_ones : List Level) (first : Bool) → (root, ps) ≡ flat_of v → open_ones ≡ opened_by root [] → first ≡ opens root → beginning root ++ parts open_ones first ps ≡ value v
flat_printed v root ps open_ones first flat is_open is_first =
    ap (λ (l : List Level). beginning root ++ parts l first ps) is_open
    ∙ ap (λ (b : Bool). beginning root ++ parts (opened_by root []) b ps) is_first
    ∙ ap (λ (x : InitHead × List InitPart). beginning x.0 ++ parts (opened_by x.0 []) (opens x.0) x.1) flat
    ∙ whole_printed v
