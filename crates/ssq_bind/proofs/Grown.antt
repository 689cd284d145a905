-- Lists that are built from the left.
use Rattle.std.proofs.Common.{◌≡◌, ◌∙◌, sym, ℕ, ◌≤◌, drop, List, [], ◌∷◌, ◌++◌, length, append_assoc}
use Rattle.std.specs.List.{flat_map}
use Rattle.std.proofs.lemmas.List.{length-append, append-nil}
use Rattle.std.proofs.Math.ListN.{drop_of_length-le}
use Rattle.ssq_shape.specs.declared.bound.Aggregate.{Aggregate}
use Rattle.ssq_shape.specs.declared.bound.Output.{Output}
use Rattle.ssq_ast.specs.declared.query.Item.{Item}
use Rattle.ssq_check.specs.declared.scope.Within.{Within}
use Rattle.ssq_bind.specs.declared.context.Context.{Context}
use Rattle.ssq_bind.specs.Lists.{gathered}
use Rattle.ssq_bind.specs.Shapes.{item_aggregates, output_of, outputs_of, shown}

pub gathered_is : {A B : Type 0} (f : A → List B) (found : List B) (xs : List A) → gathered f found xs ≡ found ++ flat_map f xs
unfolding gathered
gathered_is f found [] = sym (append-nil found)
gathered_is f found (x ∷ xs) = gathered_is f (found ++ f x) xs ∙ append_assoc found (f x) (flat_map f xs)

-- what was found once no element is left
pub gathered_end : {A B : Type 0} (f : A → List B) (old found : List B) (xs : List A) (n : ℕ) → gathered f found (drop n xs) ≡ gathered f old xs → length xs ≤ n → found ≡ old ++ flat_map f xs
unfolding gathered
gathered_end f old found xs n is past = (λ i. gathered f found (sym (drop_of_length-le xs past) i)) ∙ is ∙ gathered_is f old xs

pub shown_is : (context : Context) (w : Within) (outputs : List Output) (found : List Aggregate) (xs : List Item) → shown context w outputs found xs ≡ outputs ++ outputs_of context w (length found) xs
unfolding shown outputs_of
shown_is context w outputs found [] = sym (append-nil outputs)
shown_is context w outputs found (x ∷ xs) =
    shown_is context w (outputs ++ output_of context w (length found) x ∷ []) (found ++ item_aggregates context w x) xs
    ∙ append_assoc outputs (output_of context w (length found) x ∷ []) (outputs_of context w (length (found ++ item_aggregates context w x)) xs)
    ∙ (λ i. outputs ++ output_of context w (length found) x ∷ outputs_of context w (length-append found (item_aggregates context w x) i) xs)

-- the outputs once no item is left
pub shown_end : (context : Context) (w : Within) (outputs : List Output) (old found : List Aggregate) (xs : List Item) (n : ℕ) → shown context w outputs found (drop n xs) ≡ shown context w [] old xs → length xs ≤ n → outputs ≡ outputs_of context w (length old) xs
unfolding shown
shown_end context w outputs old found xs n is past = (λ i. shown context w outputs found (sym (drop_of_length-le xs past) i)) ∙ is ∙ shown_is context w [] old xs
