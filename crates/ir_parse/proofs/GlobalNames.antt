-- The names of globals, once their stage has passed: each stands once, and each one that is used is there.
use Rattle.std.proofs.Common.{◌≡◌, ℕ, suc, Bool, true, false, ◌||◌, ◌⊎◌, inl, inr, List, [], ◌∷◌, ◌++◌, map, Option, Some, None, Ok, Err, refl, sym, ap, subst, ◌∙◌, append_assoc, arith, if◌then◌else◌}
use Rattle.std.specs.Prelude.{Contains}
use Rattle.std.specs.List.{AllByRecursion as Each}
use Rattle.std.specs.Str.{bytes_eq}
use Rattle.std.proofs.lemmas.List.{append-nil, map-append}
use Rattle.std.proofs.lemmas.List.Elements.{Contains-append_left, Contains-append_right, Contains-push_cases}
use Rattle.std.proofs.lemmas.Slice.Eq.{bytes_eq-Decides}
use Rattle.ir_lex.specs.Tok.{Tok}
use Rattle.ir_parse_parts.specs.declared.address.Level.{Level}
use Rattle.ir_parse_parts.specs.declared.raw.Block as raw_block
use Rattle.ir_parse_parts.specs.declared.raw.Init as raw_init
use Rattle.ir_parse_parts.specs.declared.raw.InitHead as raw_head
use Rattle.ir_parse_parts.specs.declared.raw.InitHead.TheVariants as rh
use Rattle.ir_parse_parts.specs.declared.raw.InitPart as raw_part
use Rattle.ir_parse_parts.specs.declared.raw.InitPart.TheVariants as rp
use Rattle.ir_parse_parts.specs.declared.raw.Instr as raw_instr
use Rattle.ir_parse_parts.specs.declared.raw.Instr.TheVariants as ri
use Rattle.ir_parse_parts.specs.declared.raw.Item.{Item}
use Rattle.ir_parse_parts.specs.declared.raw.Item.TheVariants as item
use Rattle.ir_parse_parts.specs.declared.raw.Operand as raw_operand
use Rattle.ir_parse_parts.specs.declared.raw.Operand.TheVariants as ro
use Rattle.ir_parse_parts.specs.declared.raw.Terminator as raw_end
use Rattle.ir_parse_parts.specs.declared.raw.Terminator.TheVariants as re
use Rattle.ir_parse_parts.specs.declared.shape.Typed.{Typed}
use Rattle.ir_parse_parts.specs.Shapes as shapes
use Rattle.ir_parse_parts.specs.Shapes.{Written, WrittenParts}
use Rattle.ir_tree.specs.declared.operand.Symbol.{Symbol}
use Rattle.ir_parse_names.specs.Globals.{Globals, no_globals, has_name, is_low, counted_by, with_global}
use Rattle.ir_parse_names.specs.Keys.{number_of}
use Rattle.ir_parse_names.specs.Locals.{twice, unknown}
use Rattle.ir_parse_names.specs.Marks.{Mark, type_name, type_use, shape, many, global, symbol, address, uses, all_uses, uses_if, level_uses, all, operand_marks, both, instr_marks, end_marks, block_marks, head_marks, part_marks, init_marks, item_marks, marks_of}
use Rattle.ir_parse_names.specs.Stages.{if_there, named, all_named, with_global_name, global_names, globals_named}
use Rattle.ir_parse_names.specs.Symbols.{symbol_name, symbol_of}
use Rattle.ir_parse.proofs.Gives.{Gives, gives, fails, bind}
use Rattle.ir_parse.proofs.Marked.{MarkKnown, MarksKnown}
use Rattle.ir_parse.proofs.Once.{Once, once_push, unfound}

-- ---- the names that a text defines or declares

abbrev pub defined_by : Mark → List Tok
defined_by (global name) = name ∷ []
defined_by _ = []

abbrev pub defined_in : List Mark → List Tok
defined_in [] = []
defined_in (m ∷ ms) = defined_by m ++ defined_in ms

defined_append : (xs ys : List Mark) → defined_in (xs ++ ys) ≡ defined_in xs ++ defined_in ys
defined_append [] ys = refl
defined_append (m ∷ xs) ys = ap (λ ns. defined_by m ++ ns) (defined_append xs ys) ∙ sym (append_assoc (defined_by m) (defined_in xs) (defined_in ys))

-- no name is defined by these
abbrev Plain : List Mark → Type 0
Plain ms = defined_in ms ≡ []

both_plain : (xs ys : List Mark) → Plain xs → Plain ys → Plain (xs ++ ys)
both_plain xs ys p q = defined_append xs ys ∙ ap (λ ns. ns ++ defined_in ys) p ∙ q

each_plain : {A : Type 0} (f : A → List Mark) → ((x : A) → Plain (f x)) → (xs : List A) → Plain (all f xs)
each_plain f h [] = refl
each_plain f h (x ∷ xs) = both_plain (f x) (all f xs) (h x) (each_plain f h xs)

mutual
  uses_plain : (s : Written) → Plain (uses s)
  uses_plain (shapes.int w) = refl
  uses_plain shapes.pointer = refl
  uses_plain (shapes.array count of) = uses_plain of
  uses_plain (shapes.structure packed parts) = all_uses_plain parts
  uses_plain (shapes.named name) = refl

  all_uses_plain : (ps : WrittenParts) → Plain (all_uses ps)
  all_uses_plain shapes.no_parts = refl
  all_uses_plain (shapes.part s more) = both_plain (uses s) (all_uses more) (uses_plain s) (all_uses_plain more)

levels_plain : (ls : List Level) → Plain (level_uses ls)
levels_plain [] = refl
levels_plain (l ∷ ls) = both_plain (level_uses ls) (uses l.typed.shape) (levels_plain ls) (uses_plain l.typed.shape)

operand_plain : (o : raw_operand.Operand) → Plain (operand_marks o)
operand_plain (ro.Local name) = refl
operand_plain (ro.Global name) = refl
operand_plain (ro.Number width bits) = refl
operand_plain ro.Null = refl
operand_plain (ro.Poison reg) = refl
operand_plain (ro.Address steps) = levels_plain steps.levels

two_plain : (left right : raw_operand.Operand) → Plain (both left right)
two_plain left right = both_plain (operand_marks left) (operand_marks right) (operand_plain left) (operand_plain right)

instr_plain : (i : raw_instr.Instr) → Plain (instr_marks i)
instr_plain (ri.Binary op flags width left right) = two_plain left right
instr_plain (ri.Icmp predicate reg left right) = two_plain left right
instr_plain (ri.Cast op from value to) = operand_plain value
instr_plain (ri.Select condition if_true if_false) =
    both_plain (operand_marks condition) (both if_true.operand if_false.operand) (operand_plain condition) (two_plain if_true.operand if_false.operand)
instr_plain (ri.Freeze reg value) = operand_plain value
instr_plain (ri.Phi reg incoming) = each_plain (λ i. operand_marks i.value) (λ i. operand_plain i.value) incoming
instr_plain (ri.Alloca typed count align) = uses_plain typed.shape
instr_plain (ri.Load reg from align) = operand_plain from
instr_plain (ri.Store reg value to align) = two_plain value to
instr_plain (ri.Address inbounds typed base indices) =
    both_plain (uses typed.shape) (operand_marks base ++ all (λ a. operand_marks a.operand) indices) (uses_plain typed.shape)
    (both_plain (operand_marks base) (all (λ a. operand_marks a.operand) indices) (operand_plain base) (each_plain (λ a. operand_marks a.operand) (λ a. operand_plain a.operand) indices))
instr_plain (ri.Call result callee arguments) =
    both_plain (operand_marks callee) (all (λ a. operand_marks a.operand) arguments) (operand_plain callee) (each_plain (λ a. operand_marks a.operand) (λ a. operand_plain a.operand) arguments)

end_plain : (e : raw_end.Terminator) → Plain (end_marks e)
end_plain (re.Return None) = refl
end_plain (re.Return (Some a)) = operand_plain a.operand
end_plain (re.Jump target) = refl
end_plain (re.Branch condition if_true if_false) = operand_plain condition
end_plain (re.Switch width value default cases) = operand_plain value
end_plain re.Unreachable = refl

block_plain : (b : raw_block.Block) → Plain (block_marks b)
block_plain b = both_plain (all (λ l. instr_marks l.instr) b.lines) (end_marks b.end) (each_plain (λ l. instr_marks l.instr) (λ l. instr_plain l.instr) b.lines) (end_plain b.end)

head_plain : (h : raw_head.InitHead) → Plain (head_marks h)
head_plain (rh.Plain operand) = operand_plain operand
head_plain rh.Zeros = refl
head_plain (rh.Bytes string) = refl
head_plain (rh.Number t) = refl
head_plain rh.Array = refl
head_plain (rh.Struct packed) = refl

part_plain : (p : raw_part.InitPart) → Plain (part_marks p)
part_plain (rp.Typed typed head) = both_plain (uses typed.shape) (head_marks head) (uses_plain typed.shape) (head_plain head)
part_plain rp.End = refl

init_plain : (i : Option raw_init.Init) → Plain (init_marks i)
init_plain None = refl
init_plain (Some i) = both_plain (head_marks i.root) (all part_marks i.parts) (head_plain i.root) (each_plain part_marks part_plain i.parts)

-- the name of an item, where it defines or declares one
abbrev pub item_names : Item → List Tok
item_names (item.Variable v) = v.name ∷ []
item_names (item.Declaration head) = head.name ∷ []
item_names (item.Definition head blocks) = head.name ∷ []
item_names _ = []

abbrev pub names_of : List Item → List Tok
names_of [] = []
names_of (i ∷ is) = item_names i ++ names_of is

types_plain : (typed : Option Typed) → Plain (uses_if typed)
types_plain None = refl
types_plain (Some typed) = uses_plain typed.shape

item_defined : (i : Item) → defined_in (item_marks i) ≡ item_names i
item_defined (item.Datalayout text) = refl
item_defined (item.Triple text) = refl
item_defined (item.Attributes group noinline optnone) = refl
item_defined (item.Type name typed) = types_plain typed
item_defined (item.Variable v) =
    ap (λ ns. v.name ∷ ns) (both_plain (uses v.typed.shape) (init_marks v.init) (uses_plain v.typed.shape) (init_plain v.init))
item_defined (item.Declaration head) = refl
item_defined (item.Definition head blocks) = ap (λ ns. head.name ∷ ns) (each_plain block_marks block_plain blocks)

pub defined_names : (is : List Item) → defined_in (marks_of is) ≡ names_of is
defined_names [] = refl
defined_names (i ∷ is) = defined_append (item_marks i) (marks_of is) ∙ ap (λ ns. ns ++ defined_in (marks_of is)) (item_defined i) ∙ ap (λ ns. item_names i ++ ns) (defined_names is)

-- ---- the stage

-- a symbol that is used is found
abbrev pub Checked : List (List ℕ) → Mark → Type 0
Checked found (symbol name) = has_name found (symbol_name name) ≡ true
Checked found (address steps) = has_name found (symbol_name steps.name) ≡ true
Checked found _ = Unit {0}

record Added (g : Globals) (ts : List Tok) (h : Globals) : Type 0 where
  names : h.names ≡ g.names ++ map symbol_name ts
  once : Once g.names → Once h.names

pub record Named (found : List (List ℕ)) (g : Globals) (ms : List Mark) (h : Globals) : Type 0 where
  pub names : h.names ≡ g.names ++ map symbol_name (defined_in ms)
  pub once : Once g.names → Once h.names
  pub checked : Each (Checked found) ms

nothing_added : (g : Globals) → Added g [] g
nothing_added g = record { names = sym (append-nil g.names); once = λ h. h }

global_added : (g : Globals) (name : Tok) → Gives (with_global g name) (Added g (name ∷ []))
global_added g name = by (is_low g.counter (number_of name)) (has_name g.names (symbol_name name)) refl
  where
    by : (low there : Bool) → has_name g.names (symbol_name name) ≡ there
        → Gives (if low || there then Err (twice name.line) else Ok (record { names = g.names ++ symbol_name name ∷ []; counter = counted_by g.counter (number_of name) })) (Added g (name ∷ []))
    by true there e = fails (Added g (name ∷ [])) (twice name.line)
    by false true e = fails (Added g (name ∷ [])) (twice name.line)
    by false false e =
        gives (Added g (name ∷ [])) (record { names = g.names ++ symbol_name name ∷ []; counter = counted_by g.counter (number_of name) })
        (record { names = refl; once = λ h. once_push g.names (symbol_name name) h (unfound g.names (symbol_name name) e) })

there : (found : List (List ℕ)) (g : Globals) (name : Tok) → Gives (if_there found g name) (λ h. Added g [] h × (has_name found (symbol_name name) ≡ true))
there found g name = by (has_name found (symbol_name name)) refl
  where
    by : (b : Bool) → has_name found (symbol_name name) ≡ b → Gives (if b then Ok g else Err (unknown name.line)) (λ h. Added g [] h × (has_name found (symbol_name name) ≡ true))
    by true e = gives (λ (h : Globals). Added g [] h × (has_name found (symbol_name name) ≡ true)) g (nothing_added g, e)
    by false e = fails (λ (h : Globals). Added g [] h × (has_name found (symbol_name name) ≡ true)) (unknown name.line)

named_one : (found : List (List ℕ)) (g : Globals) (m : Mark) → Gives (named found g m) (λ h. Added g (defined_by m) h × Checked found m)
named_one found g (type_name name typed) = gives (λ (h : Globals). Added g [] h × Unit {0}) g (nothing_added g, tt)
named_one found g (type_use name) = gives (λ (h : Globals). Added g [] h × Unit {0}) g (nothing_added g, tt)
named_one found g (shape typed) = gives (λ (h : Globals). Added g [] h × Unit {0}) g (nothing_added g, tt)
named_one found g (many typed count) = gives (λ (h : Globals). Added g [] h × Unit {0}) g (nothing_added g, tt)
named_one found g (global name) = record { given = λ h e. ((global_added g name).given h e, tt) }
named_one found g (symbol name) = there found g name
named_one found g (address steps) = there found g steps.name

named_many : (found : List (List ℕ)) (g : Globals) (ms : List Mark) → Gives (all_named found g ms) (Named found g ms)
named_many found g [] = gives (Named found g []) g (record { names = sym (append-nil g.names); once = λ h. h; checked = tt })
named_many found g (m ∷ ms) =
    bind (λ (h : Globals). Added g (defined_by m) h × Checked found m) (Named found g (m ∷ ms)) (named found g m) (λ h. all_named found h ms) (named_one found g m) (λ h a. record { given = λ k e. joined h k a ((named_many found h ms).given k e) })
  where
    joined : (h k : Globals) → Added g (defined_by m) h × Checked found m → Named found h ms k → Named found g (m ∷ ms) k
    joined h k a n = record {
      names = n.names ∙ ap (λ ns. ns ++ map symbol_name (defined_in ms)) a.0.names ∙ append_assoc g.names (map symbol_name (defined_by m)) (map symbol_name (defined_in ms))
          ∙ ap (λ ns. g.names ++ ns) (sym (map-append symbol_name (defined_by m) (defined_in ms)));
      once = λ o. n.once (a.0.once o);
      checked = (a.1, n.checked);
    }

pub names_are : (ms : List Mark) → Gives (globals_named ms) (Named (global_names [] ms) no_globals ms)
unfolding globals_named
names_are ms = named_many (global_names [] ms) no_globals ms

-- ---- what is found is there

abbrev pub at_home : List ℕ → Symbol
at_home name = record { home = None; name = name }

found_name : (names : List (List ℕ)) (name : List ℕ) → has_name names name ≡ true → Contains names name
found_name [] name h = absurd cc
found_name (n ∷ ns) name h = by (λ g. found_name ns name g) (bytes_eq name n) refl h
  where
    by : (has_name ns name ≡ true → Contains ns name) → (b : Bool) → bytes_eq name n ≡ b → (b || has_name ns name) ≡ true → Contains (n ∷ ns) name
    by more true t h = (0, omega arith, sym ((bytes_eq-Decides name n).0 t))
    by more false t h = let r = more h in (suc r.0, omega (arith, r.1), r.2)

one_more : (names : List (List ℕ)) (m : Mark) (name : List ℕ) → Contains (with_global_name names m) name → Contains names name ⊎ Contains (map symbol_of (defined_by m)) (at_home name)
one_more names (type_name n typed) name h = inl h
one_more names (type_use n) name h = inl h
one_more names (shape typed) name h = inl h
one_more names (many typed count) name h = inl h
one_more names (global n) name h = by (has_name names (symbol_name n)) h
  where
    by_end : Contains names name ⊎ (symbol_name n ≡ name) → Contains names name ⊎ Contains (symbol_of n ∷ []) (at_home name)
    by_end (inl c) = inl c
    by_end (inr e) = inr (0, omega arith, ap at_home e)

    by : (b : Bool) → Contains (if b then names else names ++ symbol_name n ∷ []) name → Contains names name ⊎ Contains (symbol_of n ∷ []) (at_home name)
    by true c = inl c
    by false c = by_end (Contains-push_cases names (symbol_name n) name c)
one_more names (symbol n) name h = inl h
one_more names (address steps) name h = inl h

all_there : (names : List (List ℕ)) (ms : List Mark) (name : List ℕ) → Contains (global_names names ms) name → Contains names name ⊎ Contains (map symbol_of (defined_in ms)) (at_home name)
all_there names [] name h = inl h
all_there names (m ∷ ms) name h = by (all_there (with_global_name names m) ms name h)
  where
    split : map symbol_of (defined_in (m ∷ ms)) ≡ map symbol_of (defined_by m) ++ map symbol_of (defined_in ms)
    split = map-append symbol_of (defined_by m) (defined_in ms)

    by_first : Contains names name ⊎ Contains (map symbol_of (defined_by m)) (at_home name) → Contains names name ⊎ Contains (map symbol_of (defined_in (m ∷ ms))) (at_home name)
    by_first (inl c) = inl c
    by_first (inr c) = inr (subst (λ ss. Contains ss (at_home name)) (sym split) (Contains-append_left (map symbol_of (defined_by m)) (map symbol_of (defined_in ms)) (at_home name) c))

    by : Contains (with_global_name names m) name ⊎ Contains (map symbol_of (defined_in ms)) (at_home name) → Contains names name ⊎ Contains (map symbol_of (defined_in (m ∷ ms))) (at_home name)
    by (inl c) = by_first (one_more names m name c)
    by (inr c) = inr (subst (λ ss. Contains ss (at_home name)) (sym split) (Contains-append_right (map symbol_of (defined_by m)) (map symbol_of (defined_in ms)) (at_home name) c))

no_name : (name : List ℕ) → Contains [] name → ⊥
no_name name c = omega (arith, c.1)

pub found_symbol : (ms : List Mark) (name : Tok) → has_name (global_names [] ms) (symbol_name name) ≡ true → Contains (map symbol_of (defined_in ms)) (symbol_of name)
found_symbol ms name h = by (all_there [] ms (symbol_name name) (found_name (global_names [] ms) (symbol_name name) h))
  where
    by : Contains [] (symbol_name name) ⊎ Contains (map symbol_of (defined_in ms)) (symbol_of name) → Contains (map symbol_of (defined_in ms)) (symbol_of name)
    by (inl c) = absurd (no_name (symbol_name name) c)
    by (inr c) = c

-- what the stage found is known
pub all_known : (known : List Symbol) (found : List (List ℕ)) (ms : List Mark) → ((name : Tok) → has_name found (symbol_name name) ≡ true → Contains known (symbol_of name)) → Each (Checked found) ms → MarksKnown known ms
all_known known found [] are h = tt
all_known known found (m ∷ ms) are h = (one m h.0, all_known known found ms are h.1)
  where
    one : (m : Mark) → Checked found m → MarkKnown known m
    one (type_name name typed) c = tt
    one (type_use name) c = tt
    one (shape typed) c = tt
    one (many typed count) c = tt
    one (global name) c = tt
    one (symbol name) c = are name c
    one (address steps) c = are steps.name c
