pub mod Image
pub mod Kernel
pub mod KernelWords
