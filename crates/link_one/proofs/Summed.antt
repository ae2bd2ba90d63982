-- What the summaries of a module say of its global values.
use Rattle.std.proofs.Common.{◌≡◌, ◌∙◌, inl, inr, ◌||◌, ◌&&◌, not, ℕ, zero, suc, Bool, true, false, is_none, nat_eq, if◌then◌else◌, List, [], ◌∷◌, ◌++◌, Option, Some, None, option_map, slice_get, bytes_eq, refl, sym, ap, ap₂, subst}
use Rattle.std.proofs.lemmas.Bool.{and_from, and_parts, eq-eqb, false≢true}
use Rattle.std.proofs.lemmas.Map.Keys.{any_passes_from_place}
use Rattle.std.proofs.lemmas.Slice.Eq.{bytes_eq-Decides}
use Rattle.std.proofs.lemmas.List.Elements.{Contains-append_left}
use Rattle.std.specs.List.{Contains, cons_option}
use Rattle.std.specs.Option.{option_eq}
use Rattle.ir_tree.specs.Initials.{Initial}
use Rattle.ir_tree.specs.Linkages.{defines}
use Rattle.ir_tree.specs.Items.{Item, phi_item, line_item, end_item, items, operands, phi_reads, reads}
use Rattle.ir_tree.specs.Once.{once, without}
use Rattle.ir_tree.specs.Wholes.{Whole}
use Rattle.ir_tree.specs.declared.block.Block.{Block}
use Rattle.ir_tree.specs.declared.function.Function.{Function}
use Rattle.ir_tree.specs.declared.function.Linkage.{Linkage}
use Rattle.ir_tree.specs.declared.function.Linkage.TheVariants as linkage
use Rattle.ir_tree.specs.declared.function.Variable.{Variable}
use Rattle.ir_tree.specs.declared.module.GlobalValue.{GlobalValue}
use Rattle.ir_tree.specs.declared.module.GlobalValue.TheVariants as global
use Rattle.ir_tree.specs.declared.instr.Instr.{Instr}
use Rattle.ir_tree.specs.declared.instr.Instr.TheVariants as instr
use Rattle.ir_tree.specs.declared.module.Module.{Module}
use Rattle.ir_tree.specs.declared.operand.Operand.{Operand}
use Rattle.ir_tree.specs.declared.operand.Operand.TheVariants.{Local, Number as Constant, Null, Poison as PoisonOf, Symbol as Named}
use Rattle.ir_tree.specs.declared.operand.Symbol.{Symbol}
use Rattle.ir_summary.specs.References.{all_named, body_callees, body_names, called, callee, directly, global_names, named}
use Rattle.ir_summary.specs.Summaries.{bodied, function_summary, summaries, summary, variable_summary}
use Rattle.ir_summary.specs.declared.summary.Summary.{Summary}
use Rattle.symbol_resolve.specs.Mentions as mentions
use Rattle.symbol_resolve.specs.Prevailing.{prevailing}
use Rattle.symbol_resolve.specs.Resolved.{module_of, symbols}
use Rattle.symbol_resolve.specs.declared.mention.Standing.{Standing}
use Rattle.combined_index.specs.Entries as entries
use Rattle.ir_meaning.specs.Programs.{shared, symbol_of}
use Rattle.combined_index.proofs.Sources.{any_one}
use Rattle.merge_meaning.specs.Merged.{is_own, local_to, prevails, prevails_as, standing_of, symbol_in}
use Rattle.merge_meaning.proofs.Looked.{some_is, symbol_stands}
use Rattle.merge_meaning.proofs.Names.{clash, not_true}
use Rattle.merge_meaning.proofs.Own.{local_standing}
use Rattle.merge_meaning.proofs.Prevailing.{homeless, symbol_by_parts}
use Rattle.merge_meaning.proofs.Standing.{filter_from, first, first_or_later, in_joined, joined_from, later, nothing}
use Rattle.merge_meaning.proofs.Table.{table_names}
use Rattle.importer.proofs.Places.{placed}

-- ---- linkage

-- what prevails is no copy of another module's definition
chosen_defines : (chosen : Option ℕ) (k : ℕ) (l : Linkage) → prevails_as chosen k (mentions.standing_of l) ≡ true → defines l ≡ true
chosen_defines chosen k linkage.Private p = refl
chosen_defines chosen k linkage.Internal p = refl
chosen_defines chosen k linkage.External p = refl
chosen_defines chosen k linkage.Linkonce p = refl
chosen_defines chosen k linkage.LinkonceOdr p = refl
chosen_defines chosen k linkage.Weak p = refl
chosen_defines chosen k linkage.WeakOdr p = refl
chosen_defines chosen k linkage.AvailableExternally p = absurd (false≢true p)

-- a definition that others see prevails where its module is the one that is chosen
shared_prevails : (chosen : Option ℕ) (k : ℕ) (l : Linkage) → defines l ≡ true → is_none (mentions.standing_of l) ≡ false
    → prevails_as chosen k (mentions.standing_of l) ≡ option_eq nat_eq chosen (Some k)
shared_prevails chosen k linkage.Private d other = absurd (false≢true (sym other))
shared_prevails chosen k linkage.Internal d other = absurd (false≢true (sym other))
shared_prevails chosen k linkage.External d other = refl
shared_prevails chosen k linkage.Linkonce d other = refl
shared_prevails chosen k linkage.LinkonceOdr d other = refl
shared_prevails chosen k linkage.Weak d other = refl
shared_prevails chosen k linkage.WeakOdr d other = refl
shared_prevails chosen k linkage.AvailableExternally d other = absurd (false≢true d)

is_chosen : (chosen : Option ℕ) (k : ℕ) → entries.is_module k chosen ≡ option_eq nat_eq chosen (Some k)
is_chosen None k = refl
is_chosen (Some l) k = refl

pub none_of : {X : Type 0} (o : Option X) → is_none o ≡ true → o ≡ None
none_of None h = refl
none_of (Some x) h = absurd (false≢true h)

-- ---- callees

once_from : (names : List (List ℕ)) (name : List ℕ) → Contains (once names) name → Contains names name
once_from [] name c = absurd (nothing name c)
once_from (x ∷ names) name c =
    elim (first_or_later x name (without x (once names)) c) [
      | inl same ↦ subst (λ (y : List ℕ). Contains (x ∷ names) y) same (first x names)
      | inr rest ↦ later x name names (once_from names name (filter_from (λ (y : List ℕ). not (bytes_eq x y)) (once names) name rest).0)
    ]

-- a direct callee is among what the item names
item_callee : (item : Item) (name : List ℕ) → Contains (callee item) name → Contains (all_named (operands item)) name
item_callee (phi_item b phi) name c = absurd (nothing name c)
item_callee (end_item b e) name c = absurd (nothing name c)
item_callee (line_item b k l) name c = of l.instr c
  where
    directly_named : (o : Operand) → Contains (directly o) name → Contains (named o) name
    directly_named (Named s offset) d = by (nat_eq offset 0) d
      where
        by : (b : Bool) → Contains (if b then s.name ∷ [] else []) name → Contains (s.name ∷ []) name
        by true d = d
        by false d = absurd (nothing name d)
    directly_named (Local x) d = absurd (nothing name d)
    directly_named (Constant w bits) d = absurd (nothing name d)
    directly_named Null d = absurd (nothing name d)
    directly_named (PoisonOf reg) d = absurd (nothing name d)

    of : (i : Instr) → Contains (called i) name → Contains (all_named (reads i ++ phi_reads i)) name
    of (instr.Call result f arguments) d = Contains-append_left (named f) (all_named (arguments ++ [])) name (directly_named f d)
    of (instr.Binary op flags w l r) d = absurd (nothing name d)
    of (instr.Icmp p reg l r) d = absurd (nothing name d)
    of (instr.Cast op from o to) d = absurd (nothing name d)
    of (instr.Select c l r) d = absurd (nothing name d)
    of (instr.Freeze reg o) d = absurd (nothing name d)
    of (instr.Alloca shape align) d = absurd (nothing name d)
    of (instr.Load reg o align) d = absurd (nothing name d)
    of (instr.Store reg o a align) d = absurd (nothing name d)
    of (instr.Address inbounds shape o is) d = absurd (nothing name d)
    of (instr.Phi reg es) d = absurd (nothing name d)

callees_named : (f : Function) (name : List ℕ) → Contains (body_callees f) name → Contains (body_names f) name
callees_named f name c =
    let item = joined_from callee (items f) name c in
    in_joined (λ (x : Item). all_named (operands x)) (items f) item.0 name item.1 (item_callee item.0 name item.2)

-- ---- one summary

-- it has the name of its definition, counts as the definition does, and names what the definition names
pub record Sums (g : GlobalValue) (s : Summary) : Type 0 where
  pub name : s.name ≡ (symbol_of g).name
  pub standing : standing_of g ≡ mentions.standing_of s.linkage
  pub refs : s.refs ≡ once (global_names g)
  pub calls : (name : List ℕ) → Contains s.calls name → Contains (global_names g) name

body_sums : (f : Function) (bs : List Block) (s : Summary) → bodied bs f ≡ Some s
    → (s ≡ function_summary f) × (mentions.function_standing bs f.linkage ≡ mentions.standing_of f.linkage)
body_sums f [] s e = absurd (cc e)
body_sums f (b ∷ bs) s e = (sym (some_is (function_summary f) s e), refl)

storage_sums : (v : Variable) (init : Option Initial) (s : Summary) → option_map (λ i. variable_summary v) init ≡ Some s
    → (s ≡ variable_summary v) × (mentions.variable_standing init v.linkage ≡ mentions.standing_of v.linkage)
storage_sums v None s e = absurd (cc e)
storage_sums v (Some init) s e = (sym (some_is (variable_summary v) s e), refl)

pub sums : (g : GlobalValue) (s : Summary) → summary g ≡ Some s → Sums g s
sums (global.Function f) s e =
    let h = body_sums f f.blocks s e in
    record {
      name = ap (λ (x : Summary). x.name) h.0;
      standing = h.1 ∙ sym (ap (λ (x : Summary). mentions.standing_of x.linkage) h.0);
      refs = ap (λ (x : Summary). x.refs) h.0;
      calls = λ name c. callees_named f name (once_from (body_callees f) name (subst (λ (x : Summary). Contains x.calls name) h.0 c));
    }
sums (global.Variable v) s e =
    let h = storage_sums v v.init s e in
    record {
      name = ap (λ (x : Summary). x.name) h.0;
      standing = h.1 ∙ sym (ap (λ (x : Summary). mentions.standing_of x.linkage) h.0);
      refs = ap (λ (x : Summary). x.refs) h.0;
      calls = λ name c. absurd (nothing name (subst (λ (x : Summary). Contains x.calls name) h.0 c));
    }

-- what prevails has a summary, which is one of a definition
pub summed : (ms : List Module) (k : ℕ) (g : GlobalValue) → prevails ms k g ≡ true → (s : Summary) × (summary g ≡ Some s) × (defines s.linkage ≡ true)
summed ms k (global.Function f) kept = by f.blocks kept
  where
    by : (bs : List Block) → prevails_as (prevailing (mentions.mentions ms) f.symbol.name) k (mentions.function_standing bs f.linkage) ≡ true
        → (s : Summary) × (bodied bs f ≡ Some s) × (defines s.linkage ≡ true)
    by [] p = absurd (false≢true p)
    by (b ∷ bs) p = (function_summary f, refl, chosen_defines (prevailing (mentions.mentions ms) f.symbol.name) k f.linkage p)
summed ms k (global.Variable v) kept = by v.init kept
  where
    by : (init : Option Initial) → prevails_as (prevailing (mentions.mentions ms) v.symbol.name) k (mentions.variable_standing init v.linkage) ≡ true
        → (s : Summary) × (option_map (λ i. variable_summary v) init ≡ Some s) × (defines s.linkage ≡ true)
    by None p = absurd (false≢true p)
    by (Some init) p = (variable_summary v, refl, chosen_defines (prevailing (mentions.mentions ms) v.symbol.name) k v.linkage p)

-- ---- a module's own names

pub own_same : (gs : List GlobalValue) (name : List ℕ) → entries.is_own (summaries gs) name ≡ is_own gs name
own_same [] name = refl
own_same (global.Function f ∷ gs) name = by f.blocks (own_same gs name)
  where
    by : (bs : List Block) → entries.is_own (summaries gs) name ≡ is_own gs name
        → entries.is_own (cons_option (bodied bs f) (summaries gs)) name ≡ ((is_none (mentions.function_standing bs f.linkage) && bytes_eq name f.symbol.name) || is_own gs name)
    by [] rest = rest
    by (b ∷ bs) rest = ap₂ (λ (x y : Bool). (x && bytes_eq name f.symbol.name) || y) (local_standing f.linkage) rest
own_same (global.Variable v ∷ gs) name = by v.init (own_same gs name)
  where
    by : (init : Option Initial) → entries.is_own (summaries gs) name ≡ is_own gs name
        → entries.is_own (cons_option (option_map (λ i. variable_summary v) init) (summaries gs)) name
        ≡ ((is_none (mentions.variable_standing init v.linkage) && bytes_eq name v.symbol.name) || is_own gs name)
    by None rest = rest
    by (Some init) rest = ap₂ (λ (x y : Bool). (x && bytes_eq name v.symbol.name) || y) (local_standing v.linkage) rest

-- two global values of one name are one
one_place : (gs : List GlobalValue) → Whole gs → (i j : ℕ) (g h : GlobalValue) → slice_get gs i ≡ Some g → slice_get gs j ≡ Some h
    → (symbol_of g).name ≡ (symbol_of h).name → i ≡ j
one_place gs whole i j g h at_i at_j same =
    let symbol : symbol_of h ≡ symbol_of g =
    symbol_by_parts (symbol_of h) (symbol_of g) (homeless gs whole j h at_j ∙ sym (homeless gs whole i g at_i)) (sym same) in
    whole.once i j (symbol_of g) (symbol_stands gs i g at_i) (symbol_stands gs j h at_j ∙ ap (λ (s : Symbol). Some s) symbol)

-- so the name of a global value is the module's own exactly where it is local itself
pub own_local : (gs : List GlobalValue) → Whole gs → (i : ℕ) (g : GlobalValue) → slice_get gs i ≡ Some g → is_own gs (symbol_of g).name ≡ is_none (standing_of g)
own_local gs whole i g at = by (is_none (standing_of g)) refl
  where
    by : (b : Bool) → is_none (standing_of g) ≡ b → is_own gs (symbol_of g).name ≡ b
    by true e =
        any_passes_from_place (λ (h : GlobalValue). is_none (standing_of h) && bytes_eq (symbol_of g).name (symbol_of h).name) gs i g at
        (and_from (is_none (standing_of g)) (bytes_eq (symbol_of g).name (symbol_of g).name) e ((bytes_eq-Decides (symbol_of g).name (symbol_of g).name).1 refl))
    by false e = not_true (is_own gs (symbol_of g).name) (λ own.
        let found = any_one (λ (h : GlobalValue). is_none (standing_of h) && bytes_eq (symbol_of g).name (symbol_of h).name) gs own in
        let there = placed gs found.0 found.1 in
        let parts = and_parts (is_none (standing_of found.0)) (bytes_eq (symbol_of g).name (symbol_of found.0).name) found.2 in
        let same : i ≡ there.0 = one_place gs whole i there.0 g found.0 at there.1 ((bytes_eq-Decides (symbol_of g).name (symbol_of found.0).name).0 parts.1) in
        let one : g ≡ found.0 = some_is g found.0 (sym at ∙ subst (λ (j : ℕ). slice_get gs j ≡ Some found.0) (sym same) there.1) in
        clash (is_none (standing_of g)) e (ap (λ (h : GlobalValue). is_none (standing_of h)) one ∙ parts.0))

-- a name stands for one symbol, in a module and in its summaries
pub symbol_same : (k : ℕ) (gs : List GlobalValue) (name : List ℕ) → symbol_in k gs (shared name) ≡ entries.symbol_of k (entries.is_own (summaries gs)) name
symbol_same k gs name = by (is_own gs name) ∙ ap (λ (b : Bool). record { home = if b then Some k else None; name = name }) (sym (own_same gs name))
  where
    by : (b : Bool) → (if b then local_to k name else shared name) ≡ record { home = if b then Some k else None; name = name }
    by true = refl
    by false = refl

-- the symbol of a global value has its name, and no home
pub plain_symbol : (gs : List GlobalValue) → Whole gs → (i : ℕ) (g : GlobalValue) (name : List ℕ) → slice_get gs i ≡ Some g → name ≡ (symbol_of g).name → symbol_of g ≡ shared name
plain_symbol gs whole i g name at same = symbol_by_parts (symbol_of g) (shared name) (homeless gs whole i g at) (sym same)

-- ---- what prevails

pub prevails_same : (ms : List Module) (k : ℕ) (gs : List GlobalValue) → Whole gs → (i : ℕ) (g : GlobalValue) (s : Summary) → slice_get gs i ≡ Some g → Sums g s
    → defines s.linkage ≡ true → entries.prevails_at (symbols ms) k (entries.symbol_of k (entries.is_own (summaries gs)) s.name) ≡ prevails ms k g
prevails_same ms k gs whole i g s at h d =
    ap (λ (name : List ℕ). entries.prevails_at (symbols ms) k (entries.symbol_of k (entries.is_own (summaries gs)) name)) h.name
    ∙ ap (λ (b : Bool). entries.prevails_at (symbols ms) k (record { home = if b then Some k else None; name = (symbol_of g).name }))
    (own_same gs (symbol_of g).name ∙ own_local gs whole i g at)
    ∙ by (is_none (standing_of g)) refl
  where
    by : (b : Bool) → is_none (standing_of g) ≡ b
        → entries.prevails_at (symbols ms) k (record { home = if b then Some k else None; name = (symbol_of g).name }) ≡ prevails ms k g
    by true e =
        ap (λ (x : Bool). x || entries.is_module k (module_of (symbols ms) (symbol_of g).name)) (eq-eqb k k refl)
        ∙ sym (ap (λ (st : Option Standing). prevails_as (prevailing (mentions.mentions ms) (symbol_of g).name) k st) (none_of (standing_of g) e))
    by false e =
        ap (λ (o : Option ℕ). entries.is_module k o) (table_names ms (symbol_of g).name)
        ∙ is_chosen (prevailing (mentions.mentions ms) (symbol_of g).name) k
        ∙ sym (ap (λ (st : Option Standing). prevails_as (prevailing (mentions.mentions ms) (symbol_of g).name) k st) h.standing
        ∙ shared_prevails (prevailing (mentions.mentions ms) (symbol_of g).name) k s.linkage d (sym (ap (λ (st : Option Standing). is_none st) h.standing) ∙ e))

-- ---- places

-- a summary is that of a global value
pub from_summaries : (gs : List GlobalValue) (i : ℕ) (s : Summary) → slice_get (summaries gs) i ≡ Some s
    → (g : GlobalValue) × (place : ℕ) × (slice_get gs place ≡ Some g) × (summary g ≡ Some s)
from_summaries [] i s e = absurd (cc e)
from_summaries (x ∷ gs) i s e = by (summary x) refl i e (λ j. from_summaries gs j s)
  where
    further : ((g : GlobalValue) × (place : ℕ) × (slice_get gs place ≡ Some g) × (summary g ≡ Some s))
        → (g : GlobalValue) × (place : ℕ) × (slice_get (x ∷ gs) place ≡ Some g) × (summary g ≡ Some s)
    further (g, place, at, is) = (g, suc place, at, is)

    by : (o : Option Summary) → summary x ≡ o → (i : ℕ) → slice_get (cons_option o (summaries gs)) i ≡ Some s
        → ((j : ℕ) → slice_get (summaries gs) j ≡ Some s → (g : GlobalValue) × (place : ℕ) × (slice_get gs place ≡ Some g) × (summary g ≡ Some s))
        → (g : GlobalValue) × (place : ℕ) × (slice_get (x ∷ gs) place ≡ Some g) × (summary g ≡ Some s)
    by None is i e rest = further (rest i e)
    by (Some t) is zero e rest = (x, 0, refl, is ∙ e)
    by (Some t) is (suc i) e rest = further (rest i e)

pub in_summaries : (gs : List GlobalValue) (place : ℕ) (g : GlobalValue) (s : Summary) → slice_get gs place ≡ Some g → summary g ≡ Some s
    → (i : ℕ) × (slice_get (summaries gs) i ≡ Some s)
in_summaries [] place g s at is = absurd (cc at)
in_summaries (x ∷ gs) zero g s at is = (0, ap (λ (o : Option Summary). slice_get (cons_option o (summaries gs)) 0) (ap summary (some_is x g at) ∙ is))
in_summaries (x ∷ gs) (suc place) g s at is = by (summary x) (in_summaries gs place g s at is)
  where
    by : (o : Option Summary) → ((i : ℕ) × (slice_get (summaries gs) i ≡ Some s)) → (i : ℕ) × (slice_get (cons_option o (summaries gs)) i ≡ Some s)
    by None (i, e) = (i, e)
    by (Some t) (i, e) = (suc i, e)
