-- The head line is one line.
use Rattle.std.proofs.Common.{◌≡◌, ℕ, ◌+◌, ◌-◌, ◌*◌, ◌^◌, ◌<◌, ◌≤◌, true, ltb, List, [], length, Ok, Err, codes, Result, sym, refl, subst, arith}
use Rattle.theory.specs.Numbers.{Divides}
use Rattle.theory.specs.Residues.{residues}
use Rattle.theory.proofs.Divisors.{divides_self, divides_multiple, divides_bound}
use Rattle.theory.proofs.ResidueLaws.{residues_laws_31}
use Rattle.refusals.specs.declared.Refusal.{Refusal}
use Rattle.refusals.specs.declared.Refusal.TheVariants.{Room}
use Rattle.roots.specs.declared.call.Call.{Call}
use Rattle.roots.specs.Laws.{held_power}
use Rattle.roots.specs.Runs.{run}
use Rattle.roots.specs.State.{State, twos}
use Rattle.roots.proofs.Accepted.{refuse_passed}
use Rattle.roots.proofs.Rebuilt.{run_few}
use Rattle.roots.proofs.Runs.{runs_keep}
use Rattle.octets.specs.Buffers.{joined}
use Rattle.books.specs.Loading.{Bound, loaded}
use Rattle.books.specs.RoundTrip.{Reached}
use Rattle.books.proofs.Checked.{loaded_runs}
use Rattle.lists.specs.Calls.{headed, line_of_head}
use Rattle.lists.specs.Laws.{OneLine, HeadLines}
use Rattle.lists.specs.Texts.{noted, line_end, text_of_head, text_of_refused}
use Rattle.lists.specs.Tracks.{tracked}
use Rattle.lists.proofs.Answering.{held_whole}
use Rattle.lists.proofs.Plain.{Ends, worded, plain_noted, ends_here, ends_later, one_line}
use Rattle.lists.proofs.Refused.{plain_refused}

-- the rest goes into the modulus less one
rest_small : (q : ℕ) → 2 ≤ q → q ≤ 2147483647 → (calls : List Call) → (run (residues q) calls).rest < q
rest_small q low high calls =
    let s = run (residues q) calls in
    let held = held_power s.factors * s.rest in
    let goes : Divides s.rest (2 ^ twos q * held) =
    divides_multiple s.rest held (2 ^ twos q) (divides_multiple s.rest s.rest (held_power s.factors) (divides_self s.rest)) in
    let whole = (runs_keep (residues q) (residues_laws_31 q low high) calls).whole in
    omega (arith, divides_bound s.rest (q - 1) (omega arith) (subst (Divides s.rest) whole goes))

-- a modulus and a rest of at most ten digits, and one digit for the factors
head_ends : (q : ℕ) (s : State) → q ≤ 2147483647 → s.rest < q → length s.factors ≤ 8 → Ends 44 (text_of_head q s)
head_ends q s high rest few =
    ends_later 18 26 (noted (codes "modulus ") q) _ (plain_noted 8 10 (codes "modulus ") q refl (omega arith) (omega arith) (omega arith))
    (ends_later 16 10 (noted (codes " rest ") s.rest) _
    (plain_noted 6 10 (codes " rest ") s.rest refl (omega arith) (omega arith) (omega arith))
    (ends_later 10 0 (noted (codes " factors ") (length s.factors)) line_end
    (plain_noted 9 1 (codes " factors ") (length s.factors) refl (omega arith) (omega arith) (omega arith)) ends_here))

loaded_head : (q : ℕ) (s : State) → Reached q s → OneLine (text_of_head q s)
loaded_head q s reached =
    let laws = residues_laws_31 q reached.low reached.high in
    let calls = reached.calls in
    let line =
    head_ends q (run (residues q) calls) reached.high (rest_small q reached.low reached.high calls)
    (run_few (residues q) laws calls) in
    subst (λ (t : State). OneLine (text_of_head q t)) (sym reached.run_is) (one_line 44 _ (omega arith) line)

refused_line : (m : ℕ) (words : List ℕ) → m ≤ 93 → worded m words ≡ true → (why : Refusal) → OneLine (text_of_refused words why)
refused_line m words low e why =
    one_line (m + 2 + 0) _ (omega arith) (ends_later (m + 2) 0 _ line_end (plain_refused m words e why) ends_here)

pub head_lined : (book track : List ℕ) → OneLine (line_of_head book track)
head_lined book track = from (loaded book) refl (tracked track)
  where
    from : (o : Result Bound Refusal) → loaded book ≡ o → (n : Result ℕ Refusal) → OneLine (headed o n)
    from (Err why) is n = refused_line 13 (codes "book refused ") (omega arith) refl why
    from (Ok p) is (Err why) = refused_line 14 (codes "track refused ") (omega arith) refl why
    from (Ok p) is (Ok count) = loaded_head p.0 p.1 (loaded_runs book p.0 p.1 is)

-- a buffer into which the line was put holds all of it
pub head_held : (book track buffer : List ℕ) → buffer ≡ joined [] (line_of_head book track) → buffer ≡ line_of_head book track
head_held book track buffer holds = held_whole (line_of_head book track) buffer holds (head_lined book track).fits

pub head_lines : HeadLines
head_lines book track room text e =
    let passed = refuse_passed (ltb room 96) Room (Ok (line_of_head book track)) text e in
    let same : ◌≡◌ {A = Result (List ℕ) Refusal} (Ok (line_of_head book track)) (Ok text) = passed.1 in
    let is : line_of_head book track ≡ text = cc in
    subst OneLine is (head_lined book track)
