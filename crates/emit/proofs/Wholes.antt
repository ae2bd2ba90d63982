-- The linked module is whole and sound.
use Rattle.std.proofs.Common.{◌≡◌, ◌∙◌, ◌⊎◌, inl, inr, ℕ, true, List, ◌++◌, None, refl, sym, ap, subst}
use Rattle.std.proofs.lemmas.List.Elements.{All-contains, All-nil, Contains-append_left}
use Rattle.std.specs.List.{All, Contains}
use Rattle.ir_tree.specs.Wholes.{GlobalFormed, GlobalKnown, GlobalSound, Whole, global_symbol, symbols}
use Rattle.ir_tree.specs.declared.module.GlobalValue.{GlobalValue}
use Rattle.ir_tree.specs.declared.module.GlobalValue.TheVariants as global
use Rattle.ir_tree.specs.declared.operand.Symbol.{Symbol}
use Rattle.ir_meaning.specs.Programs.{symbol_of}
use Rattle.merge_meaning.specs.Linked.{IsDefinition}
use Rattle.merge_meaning.specs.Hosts.{getchar, putchar}
use Rattle.merge_meaning.proofs.Looked.{same_symbol}
use Rattle.merge_meaning.proofs.Standing.{in_map, map_from}
use Rattle.merge_meaning.proofs.References.{all_from, known_more}
use Rattle.emit.specs.Emissions.{IsEmission, outside_in_use, referred, settled}
use Rattle.emit.specs.Laws.{AreLinkable, EmissionIsSound, EmissionIsWhole}
use Rattle.emit.proofs.Members.{comes, outside_is, settled_symbol}
use Rattle.emit.proofs.Reordering.{homeless_of, kept_stands, once}
use Rattle.emit.proofs.Settled.{getchar_formed, getchar_sound, putchar_formed, putchar_sound, settled_formed, settled_sound}

-- what is true of each kept value, settled, and of the outside's functions
every : (exports : List (List ℕ)) (hs ks : List GlobalValue) (e : IsEmission exports hs ks) (P : GlobalValue → Type 0)
    → ((h : GlobalValue) → Contains hs h → e.keeps (symbol_of h).name ≡ true → P (settled exports h)) → P getchar → P putchar → All P ks
every exports hs ks e P each get put = all_from P ks (λ k there. by k (comes exports hs ks e k there))
  where
    host : (k : GlobalValue) → (getchar ≡ k) ⊎ (putchar ≡ k) → P k
    host k (inl same) = subst P same get
    host k (inr same) = subst P same put

    by : (k : GlobalValue) → ((h : GlobalValue) × Contains hs h × (e.keeps (symbol_of h).name ≡ true) × (settled exports h ≡ k)) ⊎ Contains (outside_in_use e.keeps hs) k → P k
    by k (inl (h, c, on, same)) = subst P same (each h c on)
    by k (inr outside) = host k (outside_is e.keeps hs k outside).0

pub is_sound : EmissionIsSound
is_sound exports hs ks definitions sound e =
    every exports hs ks e GlobalSound
    (λ h c on. settled_sound exports h (All-contains IsDefinition hs h definitions c) (All-contains GlobalSound hs h sound c)) getchar_sound putchar_sound

-- what a settled value names is what it named
settled_known : (known : List Symbol) (exports : List (List ℕ)) (h : GlobalValue) → GlobalKnown known h → GlobalKnown known (settled exports h)
settled_known known exports (global.Variable v) k = k
settled_known known exports (global.Function f) k = k

module _ (exports : List (List ℕ)) (hs hosts ks : List GlobalValue) (l : AreLinkable exports hs hosts) (e : IsEmission exports hs ks) where
  -- a known symbol with a kept name stands in the linked module
  stands : (s : Symbol) → Contains (symbols (hs ++ hosts)) s → e.keeps s.name ≡ true → Contains (symbols ks) s
  stands s there on =
      let g = map_from global_symbol (hs ++ hosts) s there in
      let same : symbol_of g.0 ≡ s = same_symbol g.0 ∙ g.2 in
      let k = kept_stands exports hs hosts ks l e g.0 g.1 (subst (λ (x : Symbol). e.keeps x.name ≡ true) (sym same) on) in
      subst (Contains (symbols ks)) (sym (same_symbol k.0) ∙ k.2 ∙ same) (in_map global_symbol ks k.0 k.1)

  known : (h : GlobalValue) → Contains hs h → e.keeps (symbol_of h).name ≡ true → GlobalKnown (symbols ks) (settled exports h)
  known h there on =
      settled_known (symbols ks) exports h
      (known_more (symbols (hs ++ hosts)) (symbols ks) h (All-contains (λ (g : GlobalValue). GlobalKnown (symbols (hs ++ hosts)) g) hs h l.known there) (λ s c names.
      stands s c ((e.kept s.name).1 (referred h s.name there ((e.kept (symbol_of h).name).0 on) names))))

  homeless : (h : GlobalValue) → Contains hs h → (global_symbol (settled exports h)).home ≡ None
  homeless h there =
      ap (λ (s : Symbol). s.home) (sym (same_symbol (settled exports h)) ∙ settled_symbol exports h ∙ homeless_of exports hs hosts ks l e h (Contains-append_left hs hosts h there))

  whole : All GlobalFormed hs → Whole ks
  whole formed = record {
    formed =
        every exports hs ks e GlobalFormed
        (λ h c on. settled_formed exports h (All-contains IsDefinition hs h l.definitions c) (All-contains GlobalFormed hs h formed c)) getchar_formed putchar_formed;
    once = once exports hs hosts ks l e;
    homeless =
        all_from (λ (s : Symbol). s.home ≡ None) (symbols ks) (λ s c.
        let k = map_from global_symbol ks s c in
        ap (λ (x : Symbol). x.home) (sym k.2) ∙ All-contains (λ (g : GlobalValue). (global_symbol g).home ≡ None) ks k.0 (every exports hs ks e (λ g. (global_symbol g).home ≡ None) (λ h there on. homeless h there) refl refl) k.1);
    known = every exports hs ks e (GlobalKnown (symbols ks)) known (All-nil _) (All-nil _);
  }

pub is_whole : EmissionIsWhole
is_whole exports hs hosts ks l formed e = whole exports hs hosts ks l e formed
