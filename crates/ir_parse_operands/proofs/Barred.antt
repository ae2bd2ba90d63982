-- A reading that is barred by a limit before a token that begins none.
use Rattle.std.proofs.Common.{◌≡◌, Bool, true, false, ◌&&◌, ◌||◌, not, List, [], ◌∷◌, ◌++◌, Result, Ok, refl, sym, subst, ◌∙◌, ◌⊎◌, inl, inr}
use Rattle.ir_parse_parts.specs.declared.fault.Fault.{Fault}
use Rattle.ir_parse_parts.specs.declared.fault.TokenFault.TheVariants.{Limit}
use Rattle.ir_parse_parts.specs.Alphabet.{Alphabet, AllReal, is_literal, is_number}
use Rattle.ir_parse_parts.specs.Forms.{Form}
use Rattle.ir_parse_parts.specs.Lawful.{Lawful, Stops, UpTo}
use Rattle.ir_parse_parts.specs.Readers.{Reader, fault_at, pick}
use Rattle.ir_parse_parts.proofs.Composed.{Begun, barred_lawful, limit_up}

differ : false ≡ true → ⊥
differ e = cc

not_and : (b c : Bool) → not b && c ≡ true → b ≡ false
not_and true c h = absurd cc
not_and false c h = refl

and_not : (b c : Bool) → b ≡ false → c ≡ true → not b && c ≡ true
and_not true c h e = absurd cc
and_not false c h e = e

or_left : (b c : Bool) → b ≡ true → b || c ≡ true
or_left true c e = refl
or_left false c e = absurd cc

or_wider : (b c d : Bool) → (not b && c) || d ≡ true → c || d ≡ true
or_wider true c d e = or_right c d e
  where
    or_right : (c d : Bool) → d ≡ true → c || d ≡ true
    or_right true d e = refl
    or_right false d e = e
or_wider false c d e = e

module _ {T A : Type 0} (alphabet : Alphabet T) (g narrow wide : Form T A) (f : Reader T A) (begins first more : T → Bool) (law : Lawful alphabet g narrow f first more false) (over : (ts : List T) (a : A) → narrow ts a → wide ts a)
    (under : (ts : List T) (a : A) → wide ts a → narrow ts a ⊎ Begun begins ts) (alike : (t u : T) → is_number alphabet t ≡ true → alphabet.class u ≡ alphabet.class t → (begins t ≡ begins u) ⊎ (begins t ≡ true → is_literal alphabet t ≡ true)) (without : (t : T) (ts : List T) (a : A) → narrow (t ∷ ts) a → begins t ≡ false) (opens : (t : T) → begins t ≡ true → (more' : List T) × (a : A) × wide (t ∷ more') a × AllReal alphabet more') where
  abbrev fewer : T → Bool
  fewer t = not (begins t) && first t

  narrowed : Lawful alphabet g narrow f fewer more false
  narrowed = record {
    sound = law.sound;
    complete = law.complete;
    starts = λ t ts a s. and_not (begins t) (first t) (without t ts a (law.contains (t ∷ ts) a s)) (law.starts t ts a s);
    nothing = law.nothing;
    some = law.some;
    viable = law.viable;
    local = law.local;
    number = law.number;
    swap = law.swap;
    contains = law.contains;
    limit = law.limit;
    broad = record {
      starts = λ t ts a s. and_not (begins t) (first t) (without t ts a s) (law.broad.starts t ts a s);
      nothing = law.broad.nothing;
      reads = law.broad.reads;
    };
  }

  here : (t : T) (ts : List T) → begins t ≡ false → pick begins (fault_at Limit) f (t ∷ ts) ≡ f (t ∷ ts)
  here t ts e = rw e refl

  complete_here : (front rest : List T) (a : A) → g front a → Stops more rest → pick begins (fault_at Limit) f (front ++ rest) ≡ Ok (a, rest)
  complete_here [] rest a s d = absurd (differ (law.nothing a s))
  complete_here (t ∷ front) rest a s d = here t (front ++ rest) (without t front a (law.contains (t ∷ front) a s)) ∙ law.complete (t ∷ front) rest a s d

  reads_here : (front rest : List T) (a : A) → narrow front a ⊎ Begun begins front → Stops more rest → UpTo alphabet (front ++ rest) (pick begins (fault_at Limit) f (front ++ rest)) (Ok (a, rest))
  reads_here [] rest a (inl x) d = absurd (differ (law.broad.nothing a x))
  reads_here [] rest a (inr e) d = absurd e
  reads_here (t ∷ front) rest a (inl x) d = subst (λ (y : Result (A × List T) Fault). UpTo alphabet (t ∷ (front ++ rest)) y (Ok (a, rest))) (sym (here t (front ++ rest) (without t front a x))) (law.broad.reads (t ∷ front) rest a x d)
  reads_here (t ∷ front) rest a (inr e) d = limit_up t (front ++ rest) (pick begins (fault_at Limit) f (t ∷ (front ++ rest))) (Ok (a, rest)) (rw e refl)

  pub barred_here : Lawful alphabet g wide (pick begins (fault_at Limit) f) (λ t. first t || begins t) more false
  barred_here =
      let b = barred_lawful alphabet g narrow wide f begins fewer more false narrowed over under (λ t u n m. elim (alike t u n m) [ inl e ↦ inl e | inr l ↦ inr (refl, l) ]) (λ t p. not_and (begins t) (first t) p) opens in
      record {
        sound = b.sound;
        complete = complete_here;
        starts = λ t ts a s. or_left (first t) (begins t) (law.starts t ts a s);
        nothing = law.nothing;
        some = law.some;
        viable = b.viable;
        local = b.local;
        number = b.number;
        swap = b.swap;
        contains = b.contains;
        limit = b.limit;
        broad = record {
          starts = λ t ts a s. or_wider (begins t) (first t) (begins t) (b.broad.starts t ts a s);
          nothing = b.broad.nothing;
          reads = λ front rest a s d. reads_here front rest a (under front a s) d;
        };
      }
