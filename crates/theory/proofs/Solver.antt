-- Identities of commutative rings, by computing: a − b is multiplied out, and every coefficient must be 0.
--
-- To prove a ≡ b in a ring r (a variable, or a shut definition such as code_ring), list the atoms, at most eight, and let `search` read the sides:
--
--   squares : {R : Type 0} (r : CommRing R) (x y : R)
--       → r.mul (r.add x y) (r.add x (r.neg y)) ≡ r.add (r.mul x x) (r.neg (r.mul y y))
--   squares r x y = solve r (x ∷ y ∷ []) (search quote depth 9) tt
--
-- An atom is any term that is no sum, negative, product, 0 or 1. The depth is that of the terms (20 costs no more); a very long identity wants `fits 4000` too.
-- With an equation h : l ≡ q at hand: `by_equation r c h e` proves a ≡ b from e : a − b ≡ c·(l − q), and e is again one line of `solve`:
--
--   by_equation r c h (solve r (x ∷ y ∷ []) (search quote depth 20) tt)
--
-- It uses: use Rattle.std.proofs.Common.{[], ◌∷◌} and use Rattle.theory.proofs.Solver.{solve, quote, by_equation}.
use Rattle.std.proofs.Common.{◌≡◌, ℕ, zero, suc, ◌+◌, ◌*◌, Bool, true, false, ◌&&◌, T, eqb, List, [], ◌∷◌, sym, refl, ap, ◌∙◌, ap₂, add-zero as nat_add_zero, add-suc, mul-zero as nat_mul_zero, mul-suc, eqb→eq}
use Rattle.theory.proofs.Algebra.{CommRing, zero_add, add_mul, mul_zero, zero_mul, neg_zero, neg_neg, mul_neg, neg_mul, neg_mul_neg, sub_zero, add_swap, neg_only, sub_same}

-- What can be computed with: a coefficient, or a polynomial.
pub record Ops (C : Type 0) : Type 0 where
  pub none : C
  pub unit : C
  pub plus : C → C → C
  pub minus : C → C
  pub times : C → C → C
  pub naught : C → Bool

-- What is computed stands for the ring's numbers.
record Stands {R : Type 0} (r : CommRing R) {C : Type 0} (o : Ops C) (at : C → R) : Type 0 where
  none_at : at o.none ≡ r.zero
  unit_at : at o.unit ≡ r.one
  plus_at : (a b : C) → at (o.plus a b) ≡ r.add (at a) (at b)
  minus_at : (a : C) → at (o.minus a) ≡ r.neg (at a)
  times_at : (a b : C) → at (o.times a b) ≡ r.mul (at a) (at b)
  naught_at : (a : C) → T (o.naught a) → at a ≡ r.zero

-- Coefficients: the pair p, n is the difference p − n.
abbrev pub Coefficient : Type 0
Coefficient = ℕ × ℕ

abbrev pub coefficients : Ops Coefficient
coefficients = record {
  none = (0, 0);
  unit = (1, 0);
  plus = λ a b. (a.0 + b.0, a.1 + b.1);
  minus = λ a. (a.1, a.0);
  times = λ a b. (a.0 * b.0 + a.1 * b.1, a.0 * b.1 + a.1 * b.0);
  naught = λ a. eqb a.0 a.1;
}

-- Polynomials: the coefficients, lowest first.
abbrev pub plus_list : {C : Type 0} → Ops C → List C → List C → List C
plus_list o [] ys = ys
plus_list o (x ∷ xs) [] = x ∷ xs
plus_list o (x ∷ xs) (y ∷ ys) = o.plus x y ∷ plus_list o xs ys

abbrev pub minus_list : {C : Type 0} → Ops C → List C → List C
minus_list o [] = []
minus_list o (x ∷ xs) = o.minus x ∷ minus_list o xs

abbrev pub scale : {C : Type 0} → Ops C → C → List C → List C
scale o c [] = []
scale o c (y ∷ ys) = o.times c y ∷ scale o c ys

abbrev pub times_list : {C : Type 0} → Ops C → List C → List C → List C
times_list o [] ys = []
times_list o (x ∷ xs) ys = plus_list o (scale o x ys) (o.none ∷ times_list o xs ys)

abbrev pub naught_list : {C : Type 0} → Ops C → List C → Bool
naught_list o [] = true
naught_list o (x ∷ xs) = o.naught x && naught_list o xs

abbrev pub polynomials : {C : Type 0} → Ops C → Ops (List C)
polynomials o = record {
  none = [];
  unit = o.unit ∷ [];
  plus = plus_list o;
  minus = minus_list o;
  times = times_list o;
  naught = naught_list o;
}

-- Polynomials in the atoms: in the first, with polynomials in the others for coefficients.
abbrev pub Poly : {R : Type 0} → List R → Type 0
Poly [] = Coefficient
Poly (x ∷ atoms) = List (Poly atoms)

abbrev pub ops : {R : Type 0} (atoms : List R) → Ops (Poly atoms)
ops [] = coefficients
ops (x ∷ atoms) = polynomials (ops atoms)

and_left : (a b : Bool) → T (a && b) → T a
and_left true b t = tt
and_left false b t = t

and_right : (a b : Bool) → T (a && b) → T b
and_right true b t = t
and_right false b t = absurd t

module _ {R : Type 0} (r : CommRing R) where
  -- The number that a natural number, a coefficient, a polynomial stands for.
  nat : ℕ → R
  nat zero = r.zero
  nat (suc k) = r.add (nat k) r.one

  coefficient_at : Coefficient → R
  coefficient_at c = r.add (nat c.0) (r.neg (nat c.1))

  list_at : {C : Type 0} → (C → R) → R → List C → R
  list_at at x [] = r.zero
  list_at at x (c ∷ cs) = r.add (at c) (r.mul x (list_at at x cs))

  nat_add : (a b : ℕ) → nat (a + b) ≡ r.add (nat a) (nat b)
  unfolding nat
  nat_add a zero = ap nat (nat_add_zero a) ∙ sym (r.add_zero _)
  nat_add a (suc b) =
      ap nat (add-suc a b) ∙ ap (λ (x : R). r.add x r.one) (nat_add a b) ∙ r.add_assoc _ _ _

  nat_mul : (a b : ℕ) → nat (a * b) ≡ r.mul (nat a) (nat b)
  unfolding nat
  nat_mul a zero = ap nat (nat_mul_zero a) ∙ sym (mul_zero r _)
  nat_mul a (suc b) =
      ap nat (mul-suc a b) ∙ nat_add (a * b) a ∙ ap (λ (x : R). r.add x (nat a)) (nat_mul a b)
      ∙ ap (r.add _) (sym (r.mul_one _)) ∙ sym (r.mul_add _ _ _)

  -- −(a + b) = −a + −b
  neg_sum : (a b : R) → r.neg (r.add a b) ≡ r.add (r.neg a) (r.neg b)
  neg_sum a b =
      sym (neg_only r _ _ (add_swap r _ _ _ _ ∙ ap₂ r.add (r.add_neg a) (r.add_neg b) ∙ r.add_zero _))

  -- (a − b)·(c − d) = (ac + bd) − (ad + bc)
  difference_times : (a b c d : ℕ) → coefficient_at (a * c + b * d, a * d + b * c) ≡ r.mul (coefficient_at (a, b)) (coefficient_at (c, d))
  unfolding coefficient_at
  difference_times a b c d =
      ap₂ r.add (nat_add (a * c) (b * d) ∙ ap₂ r.add (nat_mul a c) (nat_mul b d))
      (ap r.neg (nat_add (a * d) (b * c) ∙ ap₂ r.add (nat_mul a d) (nat_mul b c)) ∙ neg_sum _ _)
      ∙ add_swap r _ _ _ _
      ∙ ap₂ r.add (ap (r.add _) (sym (mul_neg r _ _)) ∙ sym (r.mul_add _ _ _))
      (r.add_comm _ _ ∙ ap₂ r.add (sym (neg_mul r _ _)) (sym (neg_mul_neg r _ _)) ∙ sym (r.mul_add _ _ _))
      ∙ sym (add_mul r _ _ _)

  coefficients_stand : Stands r coefficients coefficient_at
  unfolding nat coefficient_at
  coefficients_stand = record {
    none_at = r.add_neg _;
    unit_at = ap₂ r.add (zero_add r _) (neg_zero r) ∙ r.add_zero _;
    plus_at = λ a b.
        ap₂ r.add (nat_add a.0 b.0) (ap r.neg (nat_add a.1 b.1) ∙ neg_sum _ _)
        ∙ add_swap r _ _ _ _;
    minus_at = λ a. r.add_comm _ _ ∙ ap (r.add _) (sym (neg_neg r _)) ∙ sym (neg_sum _ _);
    times_at = λ a b. difference_times a.0 a.1 b.0 b.1;
    naught_at = λ a t. ap (λ (k : ℕ). r.add (nat a.0) (r.neg (nat k))) (sym (eqb→eq _ _ t)) ∙ r.add_neg _;
  }

  module _ {C : Type 0} (o : Ops C) (at : C → R) (s : Stands r o at) (x : R) where
    plus_list_at : (p q : List C) → list_at at x (plus_list o p q) ≡ r.add (list_at at x p) (list_at at x q)
    unfolding list_at
    plus_list_at [] q = sym (zero_add r _)
    plus_list_at (a ∷ p) [] = sym (r.add_zero _)
    plus_list_at (a ∷ p) (b ∷ q) =
        ap₂ r.add (s.plus_at a b) (ap (r.mul x) (plus_list_at p q) ∙ r.mul_add x _ _) ∙ add_swap r _ _ _ _

    minus_list_at : (p : List C) → list_at at x (minus_list o p) ≡ r.neg (list_at at x p)
    unfolding list_at
    minus_list_at [] = sym (neg_zero r)
    minus_list_at (a ∷ p) =
        ap₂ r.add (s.minus_at a) (ap (r.mul x) (minus_list_at p) ∙ mul_neg r x _) ∙ sym (neg_sum _ _)

    scale_at : (c : C) (q : List C) → list_at at x (scale o c q) ≡ r.mul (at c) (list_at at x q)
    unfolding list_at
    scale_at c [] = sym (mul_zero r _)
    scale_at c (b ∷ q) =
        ap₂ r.add (s.times_at c b) (ap (r.mul x) (scale_at c q) ∙ turn x (at c) (list_at at x q))
        ∙ sym (r.mul_add _ _ _)
      where
        turn : (a b d : R) → r.mul a (r.mul b d) ≡ r.mul b (r.mul a d)
        turn a b d = sym (r.mul_assoc _ _ _) ∙ ap (λ (y : R). r.mul y d) (r.mul_comm a b) ∙ r.mul_assoc _ _ _

    times_list_at : (p q : List C) → list_at at x (times_list o p q) ≡ r.mul (list_at at x p) (list_at at x q)
    unfolding list_at
    times_list_at [] q = sym (zero_mul r _)
    times_list_at (a ∷ p) q =
        plus_list_at (scale o a q) (o.none ∷ times_list o p q)
        ∙ ap₂ r.add (scale_at a q)
        (ap₂ r.add s.none_at (ap (r.mul x) (times_list_at p q)) ∙ zero_add r _ ∙ sym (r.mul_assoc _ _ _))
        ∙ sym (add_mul r _ _ _)

    naught_list_at : (p : List C) → T (naught_list o p) → list_at at x p ≡ r.zero
    unfolding list_at
    naught_list_at [] t = refl
    naught_list_at (a ∷ p) t =
        ap₂ r.add (s.naught_at a (and_left _ _ t)) (ap (r.mul x) (naught_list_at p (and_right _ _ t)) ∙ mul_zero r x)
        ∙ r.add_zero _

    polynomials_stand : Stands r (polynomials o) (list_at at x)
    unfolding list_at
    polynomials_stand = record {
      none_at = refl;
      unit_at = ap₂ r.add s.unit_at (mul_zero r x) ∙ r.add_zero _;
      plus_at = plus_list_at;
      minus_at = minus_list_at;
      times_at = times_list_at;
      naught_at = naught_list_at;
    }

  poly_at : (atoms : List R) → Poly atoms → R
  poly_at [] = coefficient_at
  poly_at (x ∷ atoms) = list_at (poly_at atoms) x

  polys_stand : (atoms : List R) → Stands r (ops atoms) (poly_at atoms)
  unfolding poly_at
  polys_stand [] = coefficients_stand
  polys_stand (x ∷ atoms) = polynomials_stand (ops atoms) (poly_at atoms) (polys_stand atoms) x

-- Where an atom stands in the list.
pub data Atom {R : Type 0} : List R → R → Type 0 where
  here : {x : R} {atoms : List R} → Atom (x ∷ atoms) x
  there : {x y : R} {atoms : List R} → Atom atoms x → Atom (y ∷ atoms) x

-- A number of the ring, read as a term over the atoms.
pub data Term {R : Type 0} (r : CommRing R) (atoms : List R) : R → Type 0 where
  zero_term : Term r atoms r.zero
  one_term : Term r atoms r.one
  add_term : {a b : R} → Term r atoms a → Term r atoms b → Term r atoms (r.add a b)
  neg_term : {a : R} → Term r atoms a → Term r atoms (r.neg a)
  mul_term : {a b : R} → Term r atoms a → Term r atoms b → Term r atoms (r.mul a b)
  atom_term : {a : R} → Atom atoms a → Term r atoms a

-- The first eight atoms, each in one step of a search.
module _ {R : Type 0} {r : CommRing R} where
  abbrev pub first : {x0 : R} {xs : List R} → Term r (x0 ∷ xs) x0
  first = atom_term here

  abbrev pub second : {x0 x1 : R} {xs : List R} → Term r (x0 ∷ x1 ∷ xs) x1
  second = atom_term (there here)

  abbrev pub third : {x0 x1 x2 : R} {xs : List R} → Term r (x0 ∷ x1 ∷ x2 ∷ xs) x2
  third = atom_term (there (there here))

  abbrev pub fourth : {x0 x1 x2 x3 : R} {xs : List R} → Term r (x0 ∷ x1 ∷ x2 ∷ x3 ∷ xs) x3
  fourth = atom_term (there (there (there here)))

  abbrev pub fifth : {x0 x1 x2 x3 x4 : R} {xs : List R} → Term r (x0 ∷ x1 ∷ x2 ∷ x3 ∷ x4 ∷ xs) x4
  fifth = atom_term (there (there (there (there here))))

  abbrev pub sixth : {x0 x1 x2 x3 x4 x5 : R} {xs : List R} → Term r (x0 ∷ x1 ∷ x2 ∷ x3 ∷ x4 ∷ x5 ∷ xs) x5
  sixth = atom_term (there (there (there (there (there here)))))

  abbrev pub seventh : {x0 x1 x2 x3 x4 x5 x6 : R} {xs : List R} → Term r (x0 ∷ x1 ∷ x2 ∷ x3 ∷ x4 ∷ x5 ∷ x6 ∷ xs) x6
  seventh = atom_term (there (there (there (there (there (there here))))))

  abbrev pub eighth : {x0 x1 x2 x3 x4 x5 x6 x7 : R} {xs : List R} → Term r (x0 ∷ x1 ∷ x2 ∷ x3 ∷ x4 ∷ x5 ∷ x6 ∷ x7 ∷ xs) x7
  eighth = atom_term (there (there (there (there (there (there (there here)))))))

pub ruleset quote = (add_term, mul_term, neg_term, zero_term, one_term, first, second, third, fourth, fifth, sixth, seventh, eighth)

abbrev pub atom_poly : {R : Type 0} {atoms : List R} {a : R} → Atom atoms a → Poly atoms
atom_poly (here {atoms = atoms}) = (ops atoms).none ∷ (ops atoms).unit ∷ []
atom_poly (there v) = atom_poly v ∷ []

abbrev pub poly : {R : Type 0} {r : CommRing R} {atoms : List R} {a : R} → Term r atoms a → Poly atoms
poly {atoms = atoms} zero_term = (ops atoms).none
poly {atoms = atoms} one_term = (ops atoms).unit
poly {atoms = atoms} (add_term s t) = (ops atoms).plus (poly s) (poly t)
poly {atoms = atoms} (neg_term s) = (ops atoms).minus (poly s)
poly {atoms = atoms} (mul_term s t) = (ops atoms).times (poly s) (poly t)
poly {atoms = atoms} (atom_term v) = atom_poly v

atom_at : {R : Type 0} (r : CommRing R) {atoms : List R} {a : R} (v : Atom atoms a) → poly_at r atoms (atom_poly v) ≡ a
unfolding poly_at list_at
atom_at r (here {x = x} {atoms = atoms}) =
    ap₂ r.add (polys_stand r atoms).none_at
    (ap (r.mul x) (ap₂ r.add (polys_stand r atoms).unit_at (mul_zero r x) ∙ r.add_zero _) ∙ r.mul_one x)
    ∙ zero_add r x
atom_at r (there {y = y} v) = ap₂ r.add (atom_at r v) (mul_zero r y) ∙ r.add_zero _

term_at : {R : Type 0} (r : CommRing R) {atoms : List R} {a : R} (t : Term r atoms a) → poly_at r atoms (poly t) ≡ a
term_at r {atoms} zero_term = (polys_stand r atoms).none_at
term_at r {atoms} one_term = (polys_stand r atoms).unit_at
term_at r {atoms} (add_term s t) = (polys_stand r atoms).plus_at _ _ ∙ ap₂ r.add (term_at r s) (term_at r t)
term_at r {atoms} (neg_term s) = (polys_stand r atoms).minus_at _ ∙ ap r.neg (term_at r s)
term_at r {atoms} (mul_term s t) = (polys_stand r atoms).times_at _ _ ∙ ap₂ r.mul (term_at r s) (term_at r t)
term_at r (atom_term v) = atom_at r v

-- a = b, if a − b multiplied out has no coefficient but 0.
pub solve : {R : Type 0} (r : CommRing R) (atoms : List R) {a b : R} (t : Term r atoms (r.add a (r.neg b)))
    → T ((ops atoms).naught (poly t)) → a ≡ b
solve r atoms {a} {b} t zeros = sub_zero r a b (sym (term_at r t) ∙ (polys_stand r atoms).naught_at (poly t) zeros)

-- a = b, if l = q and a − b is a multiple of l − q.
pub by_equation : {R : Type 0} (r : CommRing R) (c : R) {a b l q : R} → l ≡ q
    → r.add a (r.neg b) ≡ r.mul c (r.add l (r.neg q)) → a ≡ b
by_equation r c {a} {b} {l} {q} h e = sub_zero r a b (e ∙ ap (r.mul c) (sub_same r l q h) ∙ mul_zero r c)

-- The same from two equations.
pub by_equations : {R : Type 0} (r : CommRing R) (c d : R) {a b l q l' q' : R} → l ≡ q → l' ≡ q'
    → r.add a (r.neg b) ≡ r.add (r.mul c (r.add l (r.neg q))) (r.mul d (r.add l' (r.neg q'))) → a ≡ b
by_equations r c d {a} {b} {l} {q} {l'} {q'} h k e =
    sub_zero r a b
    (e ∙ ap₂ r.add (ap (r.mul c) (sub_same r l q h) ∙ mul_zero r c) (ap (r.mul d) (sub_same r l' q' k) ∙ mul_zero r d)
    ∙ r.add_zero _)
