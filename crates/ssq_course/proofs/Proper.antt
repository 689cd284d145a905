-- What an epoch that may follow has.
use Rattle.std.proofs.Common.{◌≡◌, ◌≤◌, ◌+◌, ◌&&◌, ◌||◌, ◌∷◌, ℕ, List, Bool, true, length}
use Rattle.std.specs.Prelude.{nat_le}
use Rattle.std.proofs.lemmas.Bool.{and_from, and_parts, le-leb, leb-true}
use Rattle.ssq_plans.specs.declared.part.PartEnd.{PartEnd}
use Rattle.ssq_meaning.specs.Parts.{Part}
use Rattle.ssq_meaning.specs.Times.{is_above}
use Rattle.ssq_meaning.specs.Epochs.{watermark_before}
use Rattle.ssq_core.specs.Course.{Cuts, Ends}
use Rattle.ssq_logs.specs.Asked.{most_lines}
use Rattle.ssq_course.specs.Setting.{Setting, parts_in, cuts_of, watermark_at, is_end_of, is_start, is_within, has_line, closes, is_next_of}

-- some part has a new line, or the query closes and the watermark has risen
abbrev pub is_due : Setting → Cuts → ℕ → Bool
is_due s cuts e = has_line (cuts e) (cuts (e + 1)) || (closes s.job.bound && is_above (watermark_at s cuts e) (watermark_before s.job.bound (parts_in s) (cuts_of cuts) e))

-- what is within an epoch that may come
pub record IsNext (s : Setting) (cuts : Cuts) (e : ℕ) : Type 0 where
  pub start : is_start (parts_in s) (cuts 0) ≡ true
  pub within : is_within (parts_in s) (cuts e) (cuts (e + 1)) ≡ true
  pub due : is_due s cuts e ≡ true

pub is_next_if : (s : Setting) (cuts : Cuts) (e : ℕ) → is_next_of s cuts e ≡ true → IsNext s cuts e
is_next_if s cuts e next =
    let first = and_parts (is_start (parts_in s) (cuts 0)) (is_within (parts_in s) (cuts e) (cuts (e + 1)) && is_due s cuts e) next in
    let second = and_parts (is_within (parts_in s) (cuts e) (cuts (e + 1))) (is_due s cuts e) first.1 in
    record { start = first.0; within = second.0; due = second.1 }

-- where all of that is so, it may come
pub next_from : (s : Setting) (cuts : Cuts) (e : ℕ) → IsNext s cuts e → is_next_of s cuts e ≡ true
next_from s cuts e is =
    and_from (is_start (parts_in s) (cuts 0)) (is_within (parts_in s) (cuts e) (cuts (e + 1)) && is_due s cuts e) is.start
    (and_from (is_within (parts_in s) (cuts e) (cuts (e + 1))) (is_due s cuts e) is.within is.due)

-- Of one part between two cuts: both ends are its own, the end does not fall, and is not above the part's lines, nor above the most that are
-- taken of a log; and so it is of the rest.
pub record IsGoing (part : Part) (parts : List Part) (from to : PartEnd) (froms tos : Ends) : Type 0 where
  pub from_own : is_end_of part from ≡ true
  pub to_own : is_end_of part to ≡ true
  pub up : from.end ≤ to.end
  pub most : to.end ≤ length part.lines
  pub few : to.end ≤ most_lines
  pub rest : is_within parts froms tos ≡ true

pub going : (part : Part) (parts : List Part) (from to : PartEnd) (froms tos : Ends) → is_within (part ∷ parts) (from ∷ froms) (to ∷ tos) ≡ true → IsGoing part parts from to froms tos
going part parts from to froms tos is =
    let rest = is_within parts froms tos in
    let there = nat_le to.end (length part.lines) in
    let few = nat_le to.end most_lines in
    let first = and_parts (is_end_of part from) (is_end_of part to && (nat_le from.end to.end && (there && (few && rest)))) is in
    let second = and_parts (is_end_of part to) (nat_le from.end to.end && (there && (few && rest))) first.1 in
    let third = and_parts (nat_le from.end to.end) (there && (few && rest)) second.1 in
    let fourth = and_parts there (few && rest) third.1 in
    let fifth = and_parts few rest fourth.1 in
    record {
      from_own = first.0;
      to_own = second.0;
      up = leb-true from.end to.end third.0;
      most = leb-true to.end (length part.lines) fourth.0;
      few = leb-true to.end most_lines fifth.0;
      rest = fifth.1;
    }

-- where all of that is so, the cuts are within the parts
pub going_from : (part : Part) (parts : List Part) (from to : PartEnd) (froms tos : Ends) → IsGoing part parts from to froms tos → is_within (part ∷ parts) (from ∷ froms) (to ∷ tos) ≡ true
going_from part parts from to froms tos is =
    and_from (is_end_of part from) _ is.from_own
    (and_from (is_end_of part to) _ is.to_own
    (and_from (nat_le from.end to.end) _ (le-leb from.end to.end is.up)
    (and_from (nat_le to.end (length part.lines)) _ (le-leb to.end (length part.lines) is.most)
    (and_from (nat_le to.end most_lines) (is_within parts froms tos) (le-leb to.end most_lines is.few) is.rest))))
