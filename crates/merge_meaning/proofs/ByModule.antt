-- The live definitions are the parts of the modules, and behind them functions of the outside.
use Rattle.std.proofs.Common.{◌≡◌, ◌∙◌, ◌⊎◌, inl, inr, ◌||◌, ◌&&◌, ℕ, suc, Bool, true, false, cond, List, [], ◌∷◌, ◌++◌, map, filter, codes, All, refl, sym, ap, ap₂, append_assoc}
use Rattle.std.specs.Prelude.{flat_map}
use Rattle.std.proofs.lemmas.Bool.{and_parts}
use Rattle.std.proofs.lemmas.List.{append-nil, map-append}
use Rattle.std.proofs.lemmas.List.Elements.{All-cons, All-head, All-nil, All-tail, filter-append}
use Rattle.ir_tree.specs.Symbols.{symbol_eq}
use Rattle.ir_tree.specs.Wholes.{GlobalFormed, GlobalSound}
use Rattle.ir_tree.specs.declared.module.GlobalValue.{GlobalValue}
use Rattle.ir_tree.specs.declared.module.Module.{Module}
use Rattle.ir_tree.specs.declared.operand.Symbol.{Symbol}
use Rattle.ir_meaning.specs.Programs.{is_declared, shared, symbol_of}
use Rattle.merge_meaning.specs.Globals.{global_under, named_by}
use Rattle.merge_meaning.specs.Laws.{LiveByModule, OutsideIsDeclared, PartsAreSound, PartsDefine}
use Rattle.merge_meaning.specs.Linked.{IsDefinition, emission}
use Rattle.merge_meaning.specs.Lives.{final_symbol, is_live, live_outside, outside, part_of, parts_from}
use Rattle.merge_meaning.specs.Merged.{declaration, given_by, merged_from, prevails, symbol_in, with_host, with_hosts}
use Rattle.merge_meaning.proofs.Composed.{names_compose}
use Rattle.merge_meaning.proofs.Emission.{symbol_under}
use Rattle.merge_meaning.proofs.Prevailing.{defined_some}
use Rattle.merge_meaning.proofs.Sounds.{names_keep_forms, names_keep_soundness}

abbrev PUT : List ℕ
PUT = codes "putchar"

abbrev GET : List ℕ
GET = codes "getchar"

-- ---- functions of the outside stand behind

-- the one declares nothing of the other
not_declared : (gs : List GlobalValue) → is_declared (gs ++ declaration PUT ∷ []) (shared GET) ≡ is_declared gs (shared GET)
not_declared [] = refl
not_declared (g ∷ gs) = ap (λ (b : Bool). symbol_eq (symbol_of g) (shared GET) || b) (not_declared gs)

hosts_behind : (gs : List GlobalValue) → with_hosts gs ≡ gs ++ outside gs
hosts_behind gs =
    ap (λ (b : Bool). cond b (with_host PUT gs) (with_host PUT gs ++ declaration GET ∷ [])) (same (is_declared gs (shared PUT)))
    ∙ by (is_declared gs (shared PUT)) (is_declared gs (shared GET))
  where
    same : (a : Bool) → is_declared (cond a gs (gs ++ declaration PUT ∷ [])) (shared GET) ≡ is_declared gs (shared GET)
    same true = refl
    same false = not_declared gs

    by : (a b : Bool) → cond b (cond a gs (gs ++ declaration PUT ∷ [])) (cond a gs (gs ++ declaration PUT ∷ []) ++ declaration GET ∷ [])
        ≡ gs ++ (cond a [] (declaration PUT ∷ []) ++ cond b [] (declaration GET ∷ []))
    by true true = sym (append-nil gs)
    by true false = refl
    by false true = refl
    by false false = append_assoc gs (declaration PUT ∷ []) (declaration GET ∷ [])

-- ---- module by module

emission_both : (live : Symbol → Bool) (final : Symbol → Symbol) (gs hs : List GlobalValue) → emission live final (gs ++ hs) ≡ emission live final gs ++ emission live final hs
emission_both live final gs hs =
    ap (λ (xs : List GlobalValue). map (global_under (named_by final)) xs) (filter-append (λ (g : GlobalValue). live (symbol_of g)) gs hs)
    ∙ map-append (global_under (named_by final)) (filter (λ (g : GlobalValue). live (symbol_of g)) gs) (filter (λ (g : GlobalValue). live (symbol_of g)) hs)

-- definitions that pass, under other names, those of them that are live, under final names
module _ (live : Symbol → Bool) (final name : Symbol → Symbol) (passes : GlobalValue → Bool) where
  kept_once : (gs : List GlobalValue) → emission live final (map (global_under (named_by name)) (filter passes gs))
      ≡ map (global_under (named_by (λ s. final (name s)))) (filter (λ g. passes g && live (name (symbol_of g))) gs)
  kept_once [] = refl
  kept_once (g ∷ gs) = by (passes g) (kept_once gs)
    where
      one : (b : Bool) → emission live final (map (global_under (named_by name)) (filter passes gs))
          ≡ map (global_under (named_by (λ s. final (name s)))) (filter (λ x. passes x && live (name (symbol_of x))) gs)
          → map (global_under (named_by final)) (cond b (global_under (named_by name) g ∷ filter (λ h. live (symbol_of h)) (map (global_under (named_by name)) (filter passes gs)))
          (filter (λ h. live (symbol_of h)) (map (global_under (named_by name)) (filter passes gs))))
          ≡ map (global_under (named_by (λ s. final (name s)))) (cond b (g ∷ filter (λ x. passes x && live (name (symbol_of x))) gs) (filter (λ x. passes x && live (name (symbol_of x))) gs))
      one true rest = ap₂ (λ (x : GlobalValue) (xs : List GlobalValue). x ∷ xs) (names_compose final name g) rest
      one false rest = rest

      by : (b : Bool) → emission live final (map (global_under (named_by name)) (filter passes gs))
          ≡ map (global_under (named_by (λ s. final (name s)))) (filter (λ x. passes x && live (name (symbol_of x))) gs)
          → emission live final (map (global_under (named_by name)) (cond b (g ∷ filter passes gs) (filter passes gs)))
          ≡ map (global_under (named_by (λ s. final (name s))))
          (cond (b && live (name (symbol_of g))) (g ∷ filter (λ x. passes x && live (name (symbol_of x))) gs) (filter (λ x. passes x && live (name (symbol_of x))) gs))
      by true rest =
          ap (λ (s : Symbol). map (global_under (named_by final))
          (cond (live s) (global_under (named_by name) g ∷ filter (λ h. live (symbol_of h)) (map (global_under (named_by name)) (filter passes gs)))
          (filter (λ h. live (symbol_of h)) (map (global_under (named_by name)) (filter passes gs))))) (symbol_under (named_by name) g)
          ∙ one (live (name (symbol_of g))) rest
      by false rest = rest

-- what each of a list is, each is that is kept and changed
kept_all : {X Y : Type 0} (P : X → Type 0) (Q : Y → Type 0) (change : X → Y) (keeps : X → Bool) → ((x : X) → P x → keeps x ≡ true → Q (change x))
    → (xs : List X) → All P xs → All Q (map change (filter keeps xs))
kept_all P Q change keeps one [] all = All-nil Q
kept_all {X} {Y} P Q change keeps one (x ∷ xs) all = by (keeps x) refl (kept_all P Q change keeps one xs (All-tail P x xs all))
  where
    by : (b : Bool) → keeps x ≡ b → All Q (map change (filter keeps xs)) → All Q (map change (cond b (x ∷ filter keeps xs) (filter keeps xs)))
    by true e rest = All-cons Q (change x) (map change (filter keeps xs)) (one x (All-head P x xs all) e) rest
    by false e rest = rest

module _ (ms : List Module) (symbols : List Symbol) (live : List Bool) (suffixes : List (List ℕ)) where
  from_each : (k : ℕ) (rest : List Module)
      → emission (is_live symbols live) (final_symbol suffixes) (merged_from ms k rest) ≡ flat_map (λ part. part) (parts_from ms symbols live suffixes k rest)
  from_each k [] = refl
  from_each k (m ∷ rest) =
      emission_both (is_live symbols live) (final_symbol suffixes) (given_by ms k m.globals) (merged_from ms (suc k) rest)
      ∙ ap₂ (λ (xs ys : List GlobalValue). xs ++ ys)
      (kept_once (is_live symbols live) (final_symbol suffixes) (symbol_in k m.globals) (prevails ms k) m.globals) (from_each (suc k) rest)

  -- of each value that prevails
  each_part : (P Q : GlobalValue → Type 0) → ((t : Symbol → Symbol) (k : ℕ) (g : GlobalValue) → P g → prevails ms k g ≡ true → Q (global_under (named_by t) g))
      → (k : ℕ) (rest : List Module) → All (λ m. All P m.globals) rest → All (All Q) (parts_from ms symbols live suffixes k rest)
  each_part P Q one k [] all = All-nil (All Q)
  each_part P Q one k (m ∷ rest) all =
      All-cons (All Q) (part_of ms symbols live suffixes k m.globals) (parts_from ms symbols live suffixes (suc k) rest)
      (kept_all P Q (global_under (named_by (λ s. final_symbol suffixes (symbol_in k m.globals s))))
      (λ g. prevails ms k g && is_live symbols live (symbol_in k m.globals (symbol_of g)))
      (λ g p kept. one (λ s. final_symbol suffixes (symbol_in k m.globals s)) k g p (and_parts (prevails ms k g) (is_live symbols live (symbol_in k m.globals (symbol_of g))) kept).0)
      m.globals (All-head (λ (n : Module). All P n.globals) m rest all))
      (each_part P Q one (suc k) rest (All-tail (λ (n : Module). All P n.globals) m rest all))

  declared_each : All (λ g. (g ≡ declaration PUT) ⊎ (g ≡ declaration GET)) (outside (merged_from ms 0 ms))
  declared_each = by (is_declared (merged_from ms 0 ms) (shared PUT)) (is_declared (merged_from ms 0 ms) (shared GET))
    where
      behind : (b : Bool) → All (λ g. (g ≡ declaration PUT) ⊎ (g ≡ declaration GET)) (cond b [] (declaration GET ∷ []))
      behind true = All-nil (λ (g : GlobalValue). (g ≡ declaration PUT) ⊎ (g ≡ declaration GET))
      behind false = All-cons (λ (g : GlobalValue). (g ≡ declaration PUT) ⊎ (g ≡ declaration GET)) (declaration GET) [] (inr refl) (All-nil (λ (g : GlobalValue). (g ≡ declaration PUT) ⊎ (g ≡ declaration GET)))

      by : (a b : Bool) → All (λ g. (g ≡ declaration PUT) ⊎ (g ≡ declaration GET)) (cond a [] (declaration PUT ∷ []) ++ cond b [] (declaration GET ∷ []))
      by true b = behind b
      by false b = All-cons (λ (g : GlobalValue). (g ≡ declaration PUT) ⊎ (g ≡ declaration GET)) (declaration PUT) (cond b [] (declaration GET ∷ [])) (inl refl) (behind b)

pub live_by_module : LiveByModule
live_by_module ms symbols live suffixes =
    ap (λ (gs : List GlobalValue). emission (is_live symbols live) (final_symbol suffixes) gs) (hosts_behind (merged_from ms 0 ms))
    ∙ emission_both (is_live symbols live) (final_symbol suffixes) (merged_from ms 0 ms) (outside (merged_from ms 0 ms))
    ∙ ap (λ (gs : List GlobalValue). gs ++ live_outside ms symbols live suffixes) (from_each ms symbols live suffixes 0 ms)

definition_kept : (ms : List Module) (name : Symbol → Symbol) (k : ℕ) (g : GlobalValue) → prevails ms k g ≡ true → IsDefinition (global_under (named_by name) g)
definition_kept ms name k g kept none = let some = defined_some (named_by name) ms k g kept 0 in let clash = sym none ∙ some.1 in cc clash

pub parts_define : PartsDefine
parts_define ms symbols live suffixes =
    each_part ms symbols live suffixes (λ g. Unit {0}) IsDefinition (λ name k g p kept. definition_kept ms name k g kept) 0 ms (λ i d lt. λ j e l. tt)

pub parts_are_sound : PartsAreSound
parts_are_sound ms symbols live suffixes verified = (
  each_part ms symbols live suffixes GlobalSound GlobalSound (λ name k g sound kept. names_keep_soundness name g sound) 0 ms (λ i d lt. (verified i d lt).sound),
  each_part ms symbols live suffixes GlobalFormed GlobalFormed (λ name k g formed kept. names_keep_forms name g formed) 0 ms (λ i d lt. (verified i d lt).whole.formed),
)

outside_stays : (suffixes : List (List ℕ)) (g : GlobalValue) → (g ≡ declaration PUT) ⊎ (g ≡ declaration GET)
    → (global_under (named_by (final_symbol suffixes)) g ≡ declaration PUT) ⊎ (global_under (named_by (final_symbol suffixes)) g ≡ declaration GET)
outside_stays suffixes g (inl e) = inl (ap (λ (h : GlobalValue). global_under (named_by (final_symbol suffixes)) h) e)
outside_stays suffixes g (inr e) = inr (ap (λ (h : GlobalValue). global_under (named_by (final_symbol suffixes)) h) e)

pub outside_declared : OutsideIsDeclared
outside_declared ms symbols live suffixes =
    kept_all (λ g. (g ≡ declaration PUT) ⊎ (g ≡ declaration GET)) (λ g. (g ≡ declaration PUT) ⊎ (g ≡ declaration GET)) (global_under (named_by (final_symbol suffixes)))
    (λ g. is_live symbols live (symbol_of g)) (λ g either kept. outside_stays suffixes g either) (outside (merged_from ms 0 ms)) (declared_each ms symbols live suffixes)
