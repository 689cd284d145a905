use Rattle.std.proofs.Common.{◌≡◌, ◌++◌, ◌∷◌, List, ℕ, ap, ◌∙◌}
use Rattle.std.specs.Prelude.{◌==◌}
use Rattle.std.specs.Int.{w32, w64, to_be_bytes}
use Rattle.std.proofs.lemmas.List.{append_assoc}
use Rattle.std.proofs.lemmas.Result.{IfOk-weaker}
use Rattle.ssq_value.specs.Key.{keys_of}
use Rattle.ssq_meaning.specs.Join.{is_left, row_key, side_byte}
use Rattle.ssq_join.proofs.bytes.row_key.Goals as goal

-- four pieces, one after the other
pieces : (a b c d : List ℕ) → ((a ++ b) ++ c) ++ d ≡ a ++ (b ++ (c ++ d))
pieces a b c d = append_assoc (a ++ b) c d ∙ append_assoc a b (c ++ d)

pub returns-clause-bytes : goal.returns-clause-bytes
returns-clause-bytes c =
    let row = c.args.row.now in
    let bytes = c.in_ok-put_be64.ensures.ok
    ∙ ap (λ (l : List ℕ). l ++ to_be_bytes w64 c.offset.result)
    (c.in_ok-put_be32-2.ensures.ok ∙ ap (λ (l : List ℕ). l ++ to_be_bytes w32 c.part.result) (c.in_ok-put_be32.ensures.ok ∙ ap (λ (l : List ℕ). l ++ to_be_bytes w32 c.epoch.result) (c.in_ok-put_prefix.ensures ∙ ap (λ (l : List ℕ). l ++ side_byte (c.stream.result == 0) ∷ c.args.key.now) c.in_ok-bytes.ensures)))
    ∙ (λ i. (((side_byte (is_left (c.stream.ensures i)) ∷ c.requires i) ++ to_be_bytes w32 (c.epoch.ensures i)) ++ to_be_bytes w32 (c.part.ensures i)) ++ to_be_bytes w64 (c.offset.ensures i))
    ∙ pieces (side_byte (is_left row.stream) ∷ keys_of row.key) (to_be_bytes w32 row.epoch) (to_be_bytes w32 row.part) (to_be_bytes w64 row.offset) in
    IfOk-weaker c.short.result (λ own. own ≡ c.put_be64.new.out) (λ bytes. bytes ≡ row_key row) (λ own same. same ∙ bytes) c.short.ensures.bytes
