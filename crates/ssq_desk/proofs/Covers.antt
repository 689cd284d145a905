-- The cuts of a desk cover no more lines than were found.
use Rattle.std.proofs.Common.{◌≡◌, ◌<◌, ◌≤◌, ◌+◌, ◌&&◌, ◌==◌, [], ◌∷◌, ℕ, zero, suc, Bool, true, false, true≢false, List, length, get_or, map, refl, sym, ap, ◌∙◌, subst, arith, add-one}
use Rattle.std.specs.Prelude.{IsTrue, nat_le}
use Rattle.std.specs.List.{list_all, zip}
use Rattle.std.proofs.lemmas.Bool.{and_parts, eqb-true, leb-true}
use Rattle.std.proofs.lemmas.List.{length-map}
use Rattle.ssq_outside.specs.History.{History}
use Rattle.ssq_meaning.specs.Cut.{start_of}
use Rattle.ssq_meaning.specs.Cut.{AreWithin as IsRising}
use Rattle.ssq_meaning.specs.Meaning.{Line}
use Rattle.ssq_meaning.specs.Parts.{Part}
use Rattle.ssq_core.specs.Course.{Cuts, Ends}
use Rattle.ssq_course.specs.Setting.{Setting, cut_of, end_at, parts_in}
use Rattle.ssq_open.specs.Epochs.{follows, keeps_up}
use Rattle.ssq_board.specs.Core.{is_open}
use Rattle.ssq_board.proofs.Sounds.{open_less}
use Rattle.ssq_ledger.specs.Shown.{Shown, IsInOrder, IsLegal, cuts_of}
use Rattle.ssq_terms.specs.Partitions.{CoverFound}
use Rattle.ssq_desk.specs.declared.desk.Load.{Load}
use Rattle.ssq_desk.specs.declared.round.Round.{Round}
use Rattle.ssq_desk.specs.Round.{IsOwned, Owns, setting_of}
use Rattle.ssq_desk.specs.Whole.{IsWhole, opening_in}
use Rattle.ssq_desk.proofs.Handing.{tos_within}

pub third : (a b c : Bool) → (a && b && c) ≡ true → c ≡ true
third true true c e = e
third true false c e = absurd (true≢false (sym e))
third false b c e = absurd (true≢false (sym e))

starts_at : (parts : List Part) → cut_of (map (λ part. end_at part 0) parts) ≡ start_of parts
starts_at [] = refl
starts_at (part ∷ parts) = ap (λ ends. 0 ∷ ends) (starts_at parts)

rising : (parts : List Part) (froms tos : Ends) → length froms ≡ length parts → length froms ≡ length tos → list_all keeps_up (zip froms tos) ≡ true → IsRising parts (cut_of froms) (cut_of tos)
rising [] [] [] each same keep = tt
rising [] [] (to ∷ tos) each same keep = absurd (omega (arith, same))
rising [] (from ∷ froms) tos each same keep = absurd (omega (arith, each))
rising (part ∷ parts) [] tos each same keep = absurd (omega (arith, each))
rising (part ∷ parts) (from ∷ froms) [] each same keep = absurd (omega (arith, same))
rising (part ∷ parts) (from ∷ froms) (to ∷ tos) each same keep =
    let both = and_parts (keeps_up (from, to)) (list_all keeps_up (zip froms tos)) keep in
    (leb-true from.end to.end (third (from.stream == to.stream) (from.part == to.part) (nat_le from.end to.end) both.0), rising parts froms tos (omega (arith, each)) (omega (arith, same)) both.1)

-- the parts of a cut that follows
follow_parts : (before ends : Ends) → IsTrue (follows before ends) → (length before ≡ length ends) × (list_all keeps_up (zip before ends) ≡ true)
follow_parts before ends is = let both = and_parts (length before == length ends) (list_all keeps_up (zip before ends)) is in (eqb-true (length before) (length ends) both.0, both.1)

each_end : (cuts : Cuts) (n most : ℕ) → length (cuts 0) ≡ n → ((e : ℕ) → e < most → IsTrue (follows (cuts e) (cuts (e + 1)))) → (k : ℕ) → k ≤ most → length (cuts k) ≡ n
each_end cuts n most first follow zero le = first
each_end cuts n most first follow (suc k) le =
    subst (λ (m : ℕ). length (cuts m) ≡ n) (add-one k) (sym (follow_parts (cuts k) (cuts (k + 1)) (follow k (omega (arith, le)))).0 ∙ each_end cuts n most first follow k (omega (arith, le)))

module _ {D L S F : Type 0} (stores logs : Type 0) (history : D → History) (lines : L → List Line) (available : L → ℕ) (answers : L → List ℕ) (faults : L → ℕ) (written : S → List ℕ) (sealed : F → List ℕ) (shown : Shown D (Round L)) (load : Load L S F)
    (whole : IsWhole stores logs history lines available answers faults written sealed shown load) (legal : IsLegal (Owns stores logs history lines shown) history (opening_in lines) shown) (order : IsInOrder shown.scope shown.core) where
  pub cover : is_open shown.core ≡ true → (own : IsOwned (setting_of lines shown.opening) shown.opening.opened shown.scope (history shown.opened)) → CoverFound (setting_of lines shown.opening) own.lens (cuts_of (opening_in lines) shown) (shown.core.front.committed + 1)
  cover opened own =
      let s : Setting = setting_of lines shown.opening in
      let cuts : Cuts = cuts_of (opening_in lines) shown in
      let less = open_less shown.core opened in
      let first : length (cuts 0) ≡ length (parts_in s) = ap length whole.plans.begins ∙ length-map (parts_in s) (λ (part : Part). end_at part 0) in
      record {
        are_cuts = record {
          starts = ap cut_of whole.plans.begins ∙ starts_at (parts_in s);
          follow = λ k before. (let is = follow_parts (cuts k) (cuts (k + 1)) (whole.plans.follow k (omega (arith, before, less))) in
              rising (parts_in s) (cuts k) (cuts (k + 1)) (each_end cuts (length (parts_in s)) shown.core.front.planned first whole.plans.follow k (omega (arith, before, less))) is.0 is.1);
        };
        found = subst (λ (found : List ℕ). (i : ℕ) → get_or (cut_of (cuts (shown.core.front.committed + 1))) i 0 ≤ get_or found i 0) own.scope.available
            (tos_within stores logs history lines available answers faults written sealed shown load whole legal order opened);
      }
