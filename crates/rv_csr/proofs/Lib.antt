pub mod PmpLemmas
