-- The one record that a file spells.
use Rattle.std.proofs.Common.{◌≡◌, ◌∙◌, ℕ, List, Option, Some, None, ap, sym}
use Rattle.std.specs.Prelude.{IfNone, IfSome}
use Rattle.ssq_open.specs.Spelled.{Spells, SpellsOnly}

some_same : (x y : List ℕ) → Some x ≡ Some y → x ≡ y
some_same x y e = cc

-- what is found of each record that has this text
abbrev pub FindsEach : {X : Type 0} → (X → Type 0) → (X → List ℕ) → List ℕ → Option X → Type 0
FindsEach {X} Is text_of bytes found = (x : X) → Is x → bytes ≡ text_of x → found ≡ Some x

-- a record of a kind of which no two have one text is the only one that its file spells
pub the_only : {X : Type 0} (Is : X → Type 0) (text_of : X → List ℕ) (file : Option (List ℕ)) (x : X) → ((a b : X) → Is a → Is b → text_of a ≡ text_of b → a ≡ b) → Is x → file ≡ Some (text_of x)
    → SpellsOnly Is text_of file x
the_only Is text_of file x apart canonical text = record {
  spells = record { canonical = canonical; text = text };
  only = λ other spelled. apart other x spelled.canonical canonical (some_same (text_of other) (text_of x) (sym spelled.text ∙ text));
}

-- what a reader finds is the one record that the file spells
pub the_found : {X : Type 0} (Is : X → Type 0) (text_of : X → List ℕ) (file : Option (List ℕ)) (bytes : List ℕ) (found : Option X) → file ≡ Some bytes → IfSome found (λ x. bytes ≡ text_of x) → IfSome found Is → FindsEach Is text_of bytes found
    → IfSome found (SpellsOnly Is text_of file)
the_found Is text_of file bytes None there is fits each = tt
the_found Is text_of file bytes (Some x) there is fits each = record {
  spells = record { canonical = fits; text = there ∙ ap Some is };
  only = λ other spelled. let same : Some x ≡ Some other = each other spelled.canonical (some_same bytes (text_of other) (sym there ∙ spelled.text)) in cc;
}

-- and where it finds none, the file spells none
pub none_found : {X : Type 0} (Is : X → Type 0) (text_of : X → List ℕ) (file : Option (List ℕ)) (bytes : List ℕ) (found : Option X) → file ≡ Some bytes → FindsEach Is text_of bytes found → IfNone found ((x : X) → Spells Is text_of file x → ⊥)
none_found Is text_of file bytes (Some x) there each = tt
none_found Is text_of file bytes None there each = λ x spelled. let same : None ≡ Some x = each x spelled.canonical (some_same bytes (text_of x) (sym there ∙ spelled.text)) in cc
