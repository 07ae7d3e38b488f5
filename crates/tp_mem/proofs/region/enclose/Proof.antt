-- The places, the right to free them and the handle go into the struct.
use Rattle.std.proofs.Common.{◌≡◌, ℕ, ◌^◌, ◌<◌, T, List, [], ◌∷◌, ◌++◌, refl, ap, ◌∙◌, lit<, w64}
use Rattle.tp_mem.proofs.Lower.{feq, ftrue, fsep, SProp, emp, lease_val, slots_items, slots_ptr, slots_len, slots_small, lease_ptr, lease_len, lease_heap, IsFull}
use mir.Syntax.{Ty, ty_ptr, ty_int, ty_struct, tcons, tnil}
use mir.Val.{Val, vint, vstruct, vcons, vnil, of_list, has_ty, WT}
use contract.Monad.{fact, fact_i}
use contract.Running.{tables}
use types.Kit.{‵, raw, ◌⊛◌, ◌$◌, ◌∵◌, !, qed, by, move, keep, split, fjoin, fpack, feq_i, use0}
use types.Part.{agg}
use types.Run.{of_opd, no_more, and_then, returns, enter}
use types.ByLocal.{alloc_all, pass_all, free_all, look_at, get, sets}
use denote.Builtin.{Array, u8}
use denote.Exit.{yes}
use denote.Laws.{Is}
use denote.RattleType.{RattleType, Valss, owns}
use denote.RawPtr.{Ptr, block_ptr, null_ptr, ptr_val}
use denote.Signature.{plain, types_at}
use denote.Steps.{nothing, heard}
use denote.Triple.Entry.{alive}
use denote.Triple.Walked.{Stays, stay_dropped, walk_of, Goes-dropped}
use Rattle.core.specs.contracts.slots.Slots as Slots
use Rattle.core.specs.contracts.slots.Lease as Lease
use Rattle.tp_mem.proofs.Lower.{proved, leaves, heap_val, heap_Tells}
use Rattle.std_heap.specs.contracts.Global as Heap
use Rattle.std_heap.specs.contracts.GlobalAllocator.TheImpl.{ghosts}
use Rattle.tp_mem.specs.contracts.region.Region as Region
use Rattle.tp_mem.specs.contracts.region.Region.TheInside as Inside
use Rattle.tp_mem.specs.contracts.region.enclose.{ended, clauses}
use Rattle.tp_mem.specs.contracts.region.enclose.Key.{name as #self}
use Rattle.tp_mem.proofs.region.enclose.Statement.{statement}
use Rattle.tp_mem.proofs.region.enclose.Code as code

abbrev Sr : RattleType
Sr = Slots.the_row (Array u8 tt 1024)

abbrev Lr : RattleType
Lr = Lease.the_row (Array u8 tt 1024) Heap.the_row ghosts

abbrev slots_val : Ptr → ℕ → Val
slots_val p n = vstruct (vcons (ptr_val p) (vcons (vint w64 n) vnil))

abbrev region_val : Ptr → ℕ → Ptr → ℕ → Val
region_val p n q m = vstruct (vcons (slots_val p n) (vcons (lease_val q m) (vcons heap_val vnil)))

abbrev slots_ty : Ty
slots_ty = ty_struct [] (tcons ty_ptr (tcons (ty_int w64) tnil))

abbrev lease_ty : Ty
lease_ty = ty_struct [] (tcons ty_ptr (tcons (ty_int w64) (tcons (ty_struct [] tnil) tnil)))

slots_good : (p : Ptr) (n : ℕ) → n < 2 ^ 64 → T (has_ty slots_ty (slots_val p n)) × WT (slots_val p n)
slots_good (block_ptr b o) n f = (tt, (tt, (record { fits = f }, tt)))
slots_good null_ptr n f = (tt, (record { fits = lit< tt }, (record { fits = f }, tt)))

lease_good : (p : Ptr) (n : ℕ) → n < 2 ^ 64 → T (has_ty lease_ty (lease_val p n)) × WT (lease_val p n)
lease_good (block_ptr b o) n f = (tt, (tt, (record { fits = f }, (tt, tt))))
lease_good null_ptr n f = (tt, (record { fits = lit< tt }, (record { fits = f }, (tt, tt))))

slots_told : (d : Sr.Denot) (vs : List Val) → Is Sr d vs → vs ≡ slots_val (slots_ptr d) (slots_len d) ∷ []
slots_told d vs so = let is = so.0 in
    is.1.0 ∙ ap (λ (ws : List Val). vstruct (of_list (ws ++ (is.0.1.0 ++ []))) ∷ []) is.1.1.0
    ∙ ap (λ (ws : List Val). vstruct (of_list (ptr_val (slots_ptr d) ∷ (ws ++ []))) ∷ []) is.1.1.1.0.0

lease_told : (d : Lr.Denot) (vs : List Val) → Is Lr d vs → (vs ≡ lease_val (lease_ptr d) (lease_len d) ∷ []) × (lease_len d < 2 ^ 64)
lease_told d vs so = let is = so.0 in let p : Ptr = lease_ptr d in let n : ℕ = lease_len d in (
  is.1.0 ∙ ap (λ (ws : List Val). vstruct (of_list (ws ++ (is.0.1.0 ++ (is.0.1.1.0 ++ [])))) ∷ []) is.1.1.0
      ∙ ap (λ (ws : List Val). vstruct (of_list (ptr_val p ∷ (ws ++ (is.0.1.1.0 ++ [])))) ∷ []) is.1.1.1.0.0
      ∙ ap (λ (ws : List Val). vstruct (of_list (ptr_val p ∷ vint w64 n ∷ (ws ++ []))) ∷ []) is.1.1.1.1.0.1.0,
  is.1.1.1.0.1,
)

region_good : (p : Ptr) (n : ℕ) → n < 2 ^ 64 → (q : Ptr) (m : ℕ) → m < 2 ^ 64 → T (has_ty (ty_struct [] (tcons slots_ty (tcons lease_ty (tcons (ty_struct [] (tcons (ty_struct [] (tcons mir.Syntax.ty_unit tnil)) tnil)) tnil)))) (region_val p n q m)) × WT (region_val p n q m)
region_good (block_ptr b o) n f (block_ptr c i) m g = (tt, ((tt, (record { fits = f }, tt)), ((tt, (record { fits = g }, (tt, tt))), (((tt, tt), tt), tt))))
region_good (block_ptr b o) n f null_ptr m g = (tt, ((tt, (record { fits = f }, tt)), ((record { fits = lit< tt }, (record { fits = g }, (tt, tt))), (((tt, tt), tt), tt))))
region_good null_ptr n f (block_ptr c i) m g = (tt, ((record { fits = lit< tt }, (record { fits = f }, tt)), ((tt, (record { fits = g }, (tt, tt))), (((tt, tt), tt), tt))))
region_good null_ptr n f null_ptr m g = (tt, ((record { fits = lit< tt }, (record { fits = f }, tt)), ((record { fits = lit< tt }, (record { fits = g }, (tt, tt))), (((tt, tt), tt), tt))))

abbrev stayed : Stays ended.signature.params ended.kept
stayed = (stay_dropped (plain (λ _. Sr)) yes, (stay_dropped (plain (λ _. Lr)) yes, (stay_dropped (plain (λ _. Heap.the_row)) yes, tt)))

pub enclose_spec : {M : Type 1} → statement M
enclose_spec 𝓤 𝓛 𝓜 𝓡 wired =
    let H = 𝓛.H in let 𝓣 = tables 𝓤 H 𝓜 𝓡 𝓡.env in let c = clauses 𝓛 𝓜.mem 𝓡.returns in let fn = code.function in
    proved 𝓛 ended stayed c 𝓜 𝓡 (Goes-dropped 𝓛 0 (plain (λ _. Sr)) yes (λ κs x f. refl), (Goes-dropped 𝓛 0 (plain (λ _. Lr)) yes (λ κs x f. refl), (Goes-dropped 𝓛 0 (plain (λ _. Heap.the_row)) yes (λ κs x f. refl), tt)))
    #self fn (code.unfolded 𝓤 H 𝓜 𝓡 wired)
    (λ κs. ((λ s. slots_val (slots_ptr s) (slots_len s) ∷ []), ((λ l. lease_val (lease_ptr l) (lease_len l) ∷ []), ((λ g. heap_val ∷ []), tt))))
    (λ κs. (slots_told, ((λ l vs so. (lease_told l vs so).0), (heap_Tells, tt)))) (λ κs qs bounds a gh are.
    let s : Sr.Denot = a.0 in let l : Lr.Denot = a.1.0 in let g = a.1.1.0 in
    let v = slots_val (slots_ptr s) (slots_len s) in let w = lease_val (lease_ptr l) (lease_len l) in
    let u : Val = region_val (slots_ptr s) (slots_len s) (lease_ptr l) (lease_len l) in
    let fits = slots_small s in let fits' = (lease_told l (w ∷ []) are.1.0).1 in
    let inside : Inside.the_row.Denot = record { slots = s; lease = l; alloc = g } in
    let y : (walk_of 𝓛 ended stayed c).Ghost = ((κs, qs, bounds, a, (v ∷ [], (w ∷ [], (heap_val ∷ [], tt)))), gh) in let Post : Val → SProp 𝓤 = (walk_of 𝓛 ended stayed c).post y in
    let Parts = Sr ∷ Lr ∷ Heap.the_row ∷ [] in
    qed 𝓛 ((raw (alive 𝓛 ended.signature κs qs) ⊛ ‵ (owns (types_at ended.signature.params κs) a y.0.4)) ∷ (raw (fact 𝓤 (IsFull s)) ⊛ raw (fact 𝓤 ((lease_ptr l ≡ slots_ptr s) × (lease_len l ≡ slots_len s) × (lease_heap l ≡ g)))) ∷ []) ∵
    split ! $ move ! (2 ∷ []) $ split ! $ heard ! _ (λ full. heard ! _ (λ leased.
    move ! (1 ∷ 0 ∷ []) $ feq_i ! (List Val) (u ∷ []) (u ∷ []) refl $ fjoin ! $
    fpack ! (Valss Parts) (λ vss. fsep (feq (List Val) (u ∷ []) (vstruct (of_list (vss.0 ++ (vss.1.0 ++ (vss.1.1.0 ++ [])))) ∷ [])) (owns Parts (s, (l, (g, tt))) vss)) (v ∷ [], (w ∷ [], (heap_val ∷ [], tt))) $
    nothing ! $ move ! (1 ∷ 0 ∷ []) $ fjoin ! $ nothing ! $ move ! (1 ∷ 0 ∷ []) $ fjoin ! $
    fpack ! ((x : Inside.the_row.Denot) × ((Region.the_view x ≡ slots_items s) × Region.the_invariant x)) (λ x. fsep (Inside.the_row.own_val x.0 (u ∷ [])) ftrue) (inside, (refl, (full, leased.0, leased.1, leased.2))) $
    enter ! 𝓣.C 𝓣.Λ fn (v ∷ w ∷ heap_val ∷ []) Post $ alloc_all ! (λ ls. pass_all ! refl (slots_good (slots_ptr s) (slots_len s) fits, (lease_good (lease_ptr l) (lease_len l) fits', ((tt, ((tt, tt), tt)), tt))) $
    sets ! (of_opd ! (get ! refl)) refl (slots_good (slots_ptr s) (slots_len s) fits) $
    sets ! (of_opd ! (get ! refl)) refl (lease_good (lease_ptr l) (lease_len l) fits') $
    sets ! (agg ! (and_then ! (get ! refl) (and_then ! (get ! refl) (and_then ! (get ! refl) (no_more !))))) refl (region_good (slots_ptr s) (slots_len s) fits (lease_ptr l) (lease_len l) fits') $
    use0 𝓛 (raw (fact 𝓤 (slots_items s ≡ slots_items s))) (fact_i 𝓤 (slots_items s ≡ slots_items s) (emp 𝓤) refl) $ nothing ! $ nothing ! $ fjoin ! $ nothing ! $ fjoin ! $ nothing ! $ fjoin ! $
    returns ! (look_at ! 0 refl) $ free_all ! refl $ keep ! (3 ∷ 0 ∷ 2 ∷ 1 ∷ []) $ by ! (leaves 𝓛 ended stayed c y u (slots_items s) (tt, (tt, (tt, tt))) (tt, (tt, (tt, tt))))))))
