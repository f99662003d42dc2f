mod Terms
mod Sets
