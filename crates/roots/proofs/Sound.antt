-- What every draft keeps from its start through every call.
use Rattle.std.proofs.Common.{◌≡◌, ℕ, ◌-◌, ◌*◌, ◌^◌, ◌<◌, ◌⊎◌, List, [], ◌∷◌, ◌++◌, Some, Ok, Err, Option, sym, refl, ap, ◌∙◌, subst, inl, inr, mul_assoc, mul_comm, one-mul, mul-one, arith}
use Rattle.theory.specs.Meaning.{Meaning, Laws}
use Rattle.theory.specs.Numbers.{Coprime}
use Rattle.theory.specs.Power.{Order}
use Rattle.theory.proofs.Divisors.{coprime_sym}
use Rattle.theory.proofs.Search.{some_apart}
use Rattle.roots.specs.declared.call.Call.{Call}
use Rattle.roots.specs.declared.call.Call.TheVariants.{Adopt, Seek, Give, SeekFourth}
use Rattle.roots.specs.declared.factor.Factor.{Factor}
use Rattle.roots.specs.Drafts.{Outcome, next, factor, holding, giving}
use Rattle.roots.specs.Laws.{taking, setting, ApartFrom, AllApart, AllOrders, held_power}
use Rattle.roots.specs.Runs.{step}
use Rattle.roots.specs.State.{State, twos, start}
use Rattle.roots.proofs.Accepted.{Adds, Added, Set, adopted_added, sought_added, given_set, sought_fourth_set}
use Rattle.roots.proofs.Divisions.{size_parted}

pub record Sound (m : Meaning) (s : State) : Type 0 where
  pub whole : 2 ^ twos m.size * (held_power s.factors * s.rest) ≡ m.size - 1
  pub apart : AllApart s.factors
  pub orders : AllOrders m s.factors
  pub squares : (i : ℕ) → s.fourth ≡ Some i → (i < m.size) × (m.product i i ≡ m.negative 1)

-- ---- one factor more

held_power_more : (held : List Factor) (h : Factor) → held_power (held ++ (h ∷ [])) ≡ held_power held * h.r ^ h.f
unfolding held_power
held_power_more [] h = mul-one (h.r ^ h.f) ∙ sym (one-mul (h.r ^ h.f))
held_power_more (x ∷ held) h =
    ap (λ p. x.r ^ x.f * p) (held_power_more held h) ∙ sym (mul_assoc (x.r ^ x.f) (held_power held) (h.r ^ h.f))

apart_from_more : (r : ℕ) (held : List Factor) (h : Factor) → ApartFrom r held → Coprime r h.r → ApartFrom r (held ++ (h ∷ []))
unfolding ApartFrom
apart_from_more r [] h all one = (one, tt)
apart_from_more r (x ∷ held) h all one = (all.0, apart_from_more r held h all.1 one)

all_apart_more : (held : List Factor) (h : Factor) → AllApart held → ApartFrom h.r held → AllApart (held ++ (h ∷ []))
unfolding ApartFrom AllApart
all_apart_more [] h all new = (tt, tt)
all_apart_more (x ∷ held) h all new =
    (apart_from_more x.r held h all.0 (coprime_sym h.r x.r new.0), all_apart_more held h all.1 new.1)

all_orders_more : (m : Meaning) (held : List Factor) (h : Factor) → AllOrders m held → h.zeta < m.size → Order m h.zeta h.r → AllOrders m (held ++ (h ∷ []))
unfolding AllOrders
all_orders_more m [] h all below order = ((below, order), tt)
all_orders_more m (x ∷ held) h all below order = (all.0, all_orders_more m held h all.1 below order)

-- ---- the start, and each accepted call

pub start_sound : (m : Meaning) → Laws m → Sound m (start m.size)
unfolding held_power AllApart AllOrders
start_sound m laws = record {
  whole =
      ap (λ x. 2 ^ twos m.size * x) (one-mul _)
      ∙ sym (size_parted m.size laws.size_low (omega (arith, laws.size_high))).whole;
  apart = tt;
  orders = tt;
  squares = λ i e. absurd (some_apart i (sym e));
}

holding_sound : (m : Meaning) (s : State) (r f z left : ℕ) → Adds m s r f z left → Sound m s → Sound m (holding s r f z left)
holding_sound m s r f z left adds sound = record {
  whole = ap (λ x. 2 ^ twos m.size * x) same ∙ sound.whole;
  apart = all_apart_more s.factors (factor r f z) sound.apart adds.fits.apart;
  orders = all_orders_more m s.factors (factor r f z) sound.orders adds.below adds.order;
  squares = sound.squares;
}
  where
    same : held_power (s.factors ++ (factor r f z ∷ [])) * left ≡ held_power s.factors * s.rest
    same =
        ap (λ x. x * left) (held_power_more s.factors (factor r f z))
        ∙ mul_assoc (held_power s.factors) (r ^ f) left
        ∙ ap (λ x. held_power s.factors * x) (mul_comm (r ^ f) left ∙ sym adds.fits.whole)

giving_sound : (m : Meaning) (s : State) (i : ℕ) → i < m.size → m.product i i ≡ m.negative 1 → Sound m s → Sound m (giving s i)
giving_sound m s i below squares sound = record {
  whole = sound.whole;
  apart = sound.apart;
  orders = sound.orders;
  squares = λ j e. let same : i ≡ j = cc in (subst (λ x. x < m.size) same below, subst (λ x. m.product x x ≡ m.negative 1) same squares);
}

-- ---- what an accepted call does

-- It takes a factor, or it sets the fourth root.
pub record Grown (m : Meaning) (s : State) (c : Call) (done : ℕ × State) : Type 0 where
  pub r : ℕ
  pub f : ℕ
  pub added : Added m s r f done
  pub takes : (powers : List ℕ) → taking c powers ≡ r ^ f ∷ powers
  pub sets : (i : Option ℕ) → setting c done.0 i ≡ i

pub record Settled (m : Meaning) (s : State) (c : Call) (done : ℕ × State) : Type 0 where
  pub set : Set m s done
  pub takes : (powers : List ℕ) → taking c powers ≡ powers
  pub sets : (i : Option ℕ) → setting c done.0 i ≡ Some done.0

pub accepted : (m : Meaning) → Laws m → (s : State) (c : Call) (done : ℕ × State) → step m s c ≡ Ok done → Grown m s c done ⊎ Settled m s c done
accepted m laws s (Adopt r f z) done e =
    inl (record { r = r; f = f; added = adopted_added m s r f z done e; takes = λ powers. refl; sets = λ i. refl })
accepted m laws s (Seek r f) done e =
    inl (record { r = r; f = f; added = sought_added m laws s r f done e; takes = λ powers. refl; sets = λ i. refl })
accepted m laws s (Give i) done e =
    inr (record { set = given_set m s i done e; takes = λ powers. refl; sets = λ i. refl })
accepted m laws s SeekFourth done e =
    inr (record { set = sought_fourth_set m laws s done e; takes = λ powers. refl; sets = λ i. refl })

pub accepted_sound : (m : Meaning) → Laws m → (s : State) (c : Call) (done : ℕ × State) → step m s c ≡ Ok done → Sound m s → Sound m done.1
accepted_sound m laws s c done e sound = from (accepted m laws s c done e)
  where
    from : Grown m s c done ⊎ Settled m s c done → Sound m done.1
    from (inl g) =
        let a = g.added in
        subst (λ (d : ℕ × State). Sound m d.1) (sym a.is)
        (holding_sound m s g.r g.f a.z a.left a.adds sound)
    from (inr g) =
        let a = g.set in
        subst (λ (d : ℕ × State). Sound m d.1) (sym a.is) (giving_sound m s a.i a.below a.squares sound)

-- Every call keeps it, refused or not.
pub step_sound : (m : Meaning) → Laws m → (s : State) (c : Call) → Sound m s → Sound m (next s (step m s c))
step_sound m laws s c sound = from (step m s c) refl
  where
    from : (o : Outcome) → step m s c ≡ o → Sound m (next s o)
    from (Err why) e = sound
    from (Ok done) e = accepted_sound m laws s c done e sound
