-- The texts of records and of their lines, part by part.
use Rattle.std.proofs.Common.{◌≡◌, ◌≢◌, ◌≤◌, ℕ, ℤ, List, ◌++◌, length, get_or, codes, decimal, Option, refl, sym, ap, ◌∙◌, append_assoc, length-append, arith}
use Rattle.ssq_plans.specs.declared.meta.Meta.{Meta}
use Rattle.ssq_plans.specs.declared.part.PartEnd.{PartEnd}
use Rattle.ssq_plans.specs.declared.plan.Plan.{Plan}
use Rattle.ssq_plans.specs.declared.commit.Commit.{Commit}
use Rattle.ssq_plans.specs.declared.seen.SeenBy.{SeenBy}
use Rattle.ssq_plans.specs.Records.{lines, time_or_none, parts_line, part_line, seen_line, meta_text, plan_text, commit_text}

-- ---- lines

pub part_split : (p : PartEnd) (rest : List ℕ) → part_line p ++ rest ≡ codes "part " ++ (decimal p.stream ++ (codes " " ++ (decimal p.part ++ (codes " " ++ (decimal p.end ++ (codes "\n" ++ rest))))))
part_split p rest = simp append_assoc

-- what follows two fronts is not longer than the text
pub tail_len : (front digits rest text : List ℕ) → text ≡ front ++ (digits ++ rest) → length rest ≤ length text
tail_len front digits rest text is =
    let whole = ap length is ∙ length-append front (digits ++ rest) in
    let behind = length-append digits rest in
    omega (arith, whole, behind)

pub part_is : (p : PartEnd) (stream part end : ℕ) → stream ≡ p.stream → part ≡ p.part → end ≡ p.end → (let made : PartEnd = record { stream = stream; part = part; end = end } in made) ≡ p
part_is p stream part end s i e = rw (s, i, e) refl

-- a part's line is what its numbers were found in, one after the other
pub part_joined : (p : PartEnd) (text part end rest : List ℕ) → text ≡ codes "part " ++ (decimal p.stream ++ part) → part ≡ codes " " ++ (decimal p.part ++ end) → end ≡ codes " " ++ (decimal p.end ++ (codes "\n" ++ rest)) → text ≡ part_line p ++ rest
part_joined p text part end rest h1 h2 h3 = rw (h1, h2, h3) (sym (part_split p rest))

pub parts_split : (at count : ℕ) (rest : List ℕ) → parts_line at count ++ rest ≡ codes "parts " ++ (decimal at ++ (codes " " ++ (decimal count ++ (codes "\n" ++ rest))))
parts_split at count rest = simp append_assoc

-- the line of a stream's parts is what its numbers were found in
pub parts_joined : (at stream count : ℕ) (text behind rest : List ℕ) → text ≡ codes "parts " ++ (decimal stream ++ behind) → behind ≡ codes " " ++ (decimal count ++ (codes "\n" ++ rest)) → stream ≡ at → text ≡ parts_line at count ++ rest
parts_joined at stream count text behind rest h1 h2 e = rw (h1, h2, e) (sym (parts_split at count rest))

-- what was put in two and three pieces
pub two_put : (held a b c d e : List ℕ) → held ++ (a ++ b) ++ (c ++ d ++ e) ≡ held ++ (a ++ b ++ c ++ d ++ e)
two_put held a b c d e = simp append_assoc

pub three_put : (held a b c d e f g : List ℕ) → held ++ (a ++ b) ++ (c ++ d) ++ (e ++ f ++ g) ≡ held ++ (a ++ b ++ c ++ d ++ e ++ f ++ g)
three_put held a b c d e f g = simp append_assoc

-- ---- records

parts_5 : (a b c d e : List ℕ) → a ++ b ++ c ++ d ++ e ≡ a ++ (b ++ (c ++ (d ++ e)))
parts_5 a b c d e = simp append_assoc

parts_8 : (a b c d e f g h : List ℕ) → a ++ b ++ c ++ d ++ e ++ f ++ g ++ h ≡ a ++ (b ++ (c ++ (d ++ (e ++ (f ++ (g ++ h))))))
parts_8 a b c d e f g h = simp append_assoc

parts_10 : (a b c d e f g h i j : List ℕ) → a ++ b ++ c ++ d ++ e ++ f ++ g ++ h ++ i ++ j ≡ a ++ (b ++ (c ++ (d ++ (e ++ (f ++ (g ++ (h ++ (i ++ j))))))))
parts_10 a b c d e f g h i j = simp append_assoc

-- a line that was put after what stood there
pub line_put : (held a b c : List ℕ) → held ++ (a ++ b ++ c) ≡ held ++ a ++ b ++ c
line_put held a b c = simp append_assoc

pub commit_split : (c : Commit) → commit_text c ≡ codes "v1\ncommit " ++ (decimal c.epoch ++ (codes "\n" ++ (lines (λ at seen. seen_line seen) 0 c.seen ++ codes "end\n")))
commit_split c = parts_5 (codes "v1\ncommit ") (decimal c.epoch) (codes "\n") (lines (λ at seen. seen_line seen) 0 c.seen) (codes "end\n")

pub commit_written : (c : Commit) (seen : List SeenBy) → seen ≡ c.seen → codes "v1\ncommit " ++ decimal c.epoch ++ codes "\n" ++ lines (λ at seen. seen_line seen) 0 seen ++ codes "end\n" ≡ commit_text c
commit_written c seen is = rw is refl

pub commit_joined : (c : Commit) (text rest end : List ℕ) → text ≡ codes "v1\ncommit " ++ (decimal c.epoch ++ (codes "\n" ++ rest)) → rest ≡ lines (λ at seen. seen_line seen) 0 c.seen ++ end → end ≡ codes "end\n" → text ≡ commit_text c
commit_joined c text rest end h1 h2 h3 = rw (h1, h2, h3) (sym (commit_split c))

pub commit_is : (c : Commit) (epoch : ℕ) (seen : List SeenBy) → epoch ≡ c.epoch → seen ≡ c.seen → (let made : Commit = record { epoch = epoch; seen = seen } in made) ≡ c
commit_is c epoch seen e s = rw (e, s) refl

pub no_seen : (at : ℕ) (s : SeenBy) (behind : List ℕ) → codes "end\n" ≢ seen_line s ++ behind
no_seen at s behind is = absurd (omega (arith, ap (λ (ts : List ℕ). get_or ts 0 0) is))

pub plan_split : (p : Plan) → plan_text p ≡ codes "v1\nplan " ++ (decimal p.epoch ++ (codes "\n" ++ (codes "watermark " ++ (time_or_none p.watermark ++ (codes "\n" ++ (lines (λ at part. part_line part) 0 p.ends ++ codes "end\n"))))))
plan_split p = parts_8 (codes "v1\nplan ") (decimal p.epoch) (codes "\n") (codes "watermark ") (time_or_none p.watermark) (codes "\n") (lines (λ at part. part_line part) 0 p.ends) (codes "end\n")

pub plan_written : (p : Plan) (ends : List PartEnd) → ends ≡ p.ends → codes "v1\nplan " ++ decimal p.epoch ++ codes "\n" ++ (codes "watermark " ++ time_or_none p.watermark ++ codes "\n") ++ lines (λ at part. part_line part) 0 ends ++ codes "end\n" ≡ plan_text p
plan_written p ends is = rw is (ap (λ front. front ++ lines (λ at part. part_line part) 0 p.ends ++ codes "end\n") (line_put (codes "v1\nplan " ++ decimal p.epoch ++ codes "\n") (codes "watermark ") (time_or_none p.watermark) (codes "\n")))

pub plan_joined : (p : Plan) (text mark rest end : List ℕ) → text ≡ codes "v1\nplan " ++ (decimal p.epoch ++ (codes "\n" ++ mark)) → mark ≡ codes "watermark " ++ (time_or_none p.watermark ++ (codes "\n" ++ rest)) → rest ≡ lines (λ at part. part_line part) 0 p.ends ++ end → end ≡ codes "end\n" → text ≡ plan_text p
plan_joined p text mark rest end h1 h2 h3 h4 = rw (h1, h2, h3, h4) (sym (plan_split p))

pub plan_is : (p : Plan) (epoch : ℕ) (watermark : Option ℤ) (ends : List PartEnd) → epoch ≡ p.epoch → watermark ≡ p.watermark → ends ≡ p.ends → (let made : Plan = record { epoch = epoch; watermark = watermark; ends = ends } in made) ≡ p
plan_is p epoch watermark ends e w s = rw (e, w, s) refl

pub no_part : (at : ℕ) (p : PartEnd) (behind : List ℕ) → codes "end\n" ≢ part_line p ++ behind
no_part at p behind is = absurd (omega (arith, ap (λ (ts : List ℕ). get_or ts 0 0) is))

pub meta_split : (m : Meta) → meta_text m ≡ codes "v1\npartitions " ++ (decimal m.partitions ++ (codes "\n" ++ (lines parts_line 0 m.parts ++ (codes "query " ++ (decimal (length m.query) ++ (codes "\n" ++ (m.query ++ codes "\nend\n")))))))
meta_split m = parts_10 (codes "v1\npartitions ") (decimal m.partitions) (codes "\n") (lines parts_line 0 m.parts) (codes "query ") (decimal (length m.query)) (codes "\n") m.query (codes "\n") (codes "end\n")

pub meta_written : (m : Meta) (count : ℕ) (parts query : List ℕ) → parts ≡ m.parts → count ≡ length m.query → query ≡ m.query → codes "v1\npartitions " ++ decimal m.partitions ++ codes "\n" ++ lines parts_line 0 parts ++ (codes "query " ++ decimal count ++ codes "\n") ++ query ++ codes "\nend\n" ≡ meta_text m
meta_written m count parts query h1 h2 h3 =
    let front = codes "v1\npartitions " ++ decimal m.partitions ++ codes "\n" ++ lines parts_line 0 m.parts in
    rw (h1, h2, h3) (
    ap (λ text. text ++ m.query ++ codes "\nend\n") (line_put front (codes "query ") (decimal (length m.query)) (codes "\n"))
    ∙ sym (append_assoc (front ++ codes "query " ++ decimal (length m.query) ++ codes "\n" ++ m.query) (codes "\n") (codes "end\n"))
    )

pub meta_joined : (m : Meta) (text rest end : List ℕ) → text ≡ codes "v1\npartitions " ++ (decimal m.partitions ++ (codes "\n" ++ rest)) → rest ≡ lines parts_line 0 m.parts ++ end → end ≡ codes "query " ++ (decimal (length m.query) ++ (codes "\n" ++ (m.query ++ codes "\nend\n"))) → text ≡ meta_text m
meta_joined m text rest end h1 h2 h3 = rw (h1, h2, h3) (sym (meta_split m))

pub meta_is : (m : Meta) (partitions : ℕ) (parts query : List ℕ) → partitions ≡ m.partitions → parts ≡ m.parts → query ≡ m.query → (let made : Meta = record { partitions = partitions; parts = parts; query = query } in made) ≡ m
meta_is m partitions parts query p s q = rw (p, s, q) refl

pub no_parts : (at count : ℕ) (rest behind : List ℕ) → codes "query " ++ rest ≢ parts_line at count ++ behind
no_parts at count rest behind is = absurd (omega (arith, ap (λ (ts : List ℕ). get_or ts 0 0) is))

pub query_len : (text query : List ℕ) → text ≡ codes "query " ++ (decimal (length query) ++ (codes "\n" ++ (query ++ codes "\nend\n"))) → length query ≤ length text
query_len text query is =
    let behind = tail_len (codes "query ") (decimal (length query)) (codes "\n" ++ (query ++ codes "\nend\n")) text is in
    omega (arith, behind, length-append query (codes "\nend\n"))

pub query_joined : (text rest query end shown : List ℕ) (len : ℕ) → text ≡ codes "query " ++ (decimal len ++ (codes "\n" ++ rest)) → rest ≡ query ++ end → end ≡ codes "\nend\n" → length query ≡ len → shown ≡ query → text ≡ codes "query " ++ (decimal (length shown) ++ (codes "\n" ++ (shown ++ codes "\nend\n")))
query_joined text rest query end shown len h1 h2 h3 h4 h5 = rw (h1, h2, h3, h5, h4) refl

-- ---- the greatest times of streams

pub seen_split : (s : SeenBy) (rest : List ℕ) → seen_line s ++ rest ≡ codes "seen " ++ (decimal s.stream ++ (codes " " ++ (time_or_none s.time ++ (codes "\n" ++ rest))))
seen_split s rest = simp append_assoc

-- a stream's line is what its values were found in, one after the other
pub seen_joined : (s : SeenBy) (text stop rest : List ℕ) (stream : ℕ) (time : Option ℤ) → stream ≡ s.stream → time ≡ s.time → text ≡ codes "seen " ++ (decimal stream ++ stop) → stop ≡ codes " " ++ (time_or_none time ++ (codes "\n" ++ rest)) → text ≡ seen_line s ++ rest
seen_joined s text stop rest stream time e t h1 h2 = rw (h1, h2, e, t) (sym (seen_split s rest))

-- the stream and the time are all
pub seen_is : (a b : SeenBy) → a.stream ≡ b.stream → a.time ≡ b.time → a ≡ b
seen_is a b s t = λ i. record { stream = s i; time = t i }
