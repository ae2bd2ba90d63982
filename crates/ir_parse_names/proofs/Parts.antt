-- The part of a structure that an index counts.
use Rattle.std.proofs.Common.{◌≡◌, Bool, true, false, cond, List, ◌∷◌, Some, None, Err, sym, ap}
use Rattle.ir_parse_parts.specs.declared.address.Index.{Index}
use Rattle.ir_tree.specs.Forms.{Form, Forms, structure}
use Rattle.ir_tree.specs.Layout.{place}
use Rattle.ir_parse_names.specs.Addresses.{bad_index, offset_in, part_at, picks, plus}

some_is : {A : Type 0} (x y : A) → Some x ≡ Some y → x ≡ y
some_is x y e = cc

pub part_offset : (packed : Bool) (parts : Forms) (i : Index) (rest : List Index) (p : Form) → Some p ≡ cond (picks i parts) (Some (part_at parts i.bits)) None → offset_in (structure packed parts) (i ∷ rest) ≡ plus (place packed 0 parts i.bits) (offset_in p rest)
part_offset packed parts i rest p e = by_test (picks i parts) e
  where
    by_test : (b : Bool) → Some p ≡ cond b (Some (part_at parts i.bits)) None → cond b (plus (place packed 0 parts i.bits) (offset_in (part_at parts i.bits) rest)) (Err (bad_index i.line)) ≡ plus (place packed 0 parts i.bits) (offset_in p rest)
    by_test true e = ap (λ (f : Form). plus (place packed 0 parts i.bits) (offset_in f rest)) (some_is _ _ (sym e))
    by_test false e = absurd cc
